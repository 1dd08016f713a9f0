use Rattle.std.proofs.Common.{arith, refl}
use Rattle.page_store.specs.StoreLaws.{some-all}
use Rattle.table_dump.proofs.named.print_root.Goals as goal

pub returns-then-root-lt1-clause-pages : goal.returns-then-root-lt1-clause-pages
returns-then-root-lt1-clause-pages g c = record {
  same = refl;
  count = refl;
  answer = some-all (g.S.PageRead.pages c.args.store.now) (λ m. λ first last. absurd (omega (arith, first, c.if-root-lt1.true)));
}
