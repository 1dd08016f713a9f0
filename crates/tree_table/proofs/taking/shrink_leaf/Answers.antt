use Rattle.std.proofs.Common.{refl}
use Rattle.tree_table.proofs.Used.{whenever-none}
use Rattle.std.proofs.Common.{ℕ, List, length, ap, subst, arith}
use Rattle.format_spec.specs.declared.PageKind.TheVariants.{TableInterior}
use Rattle.tree_pages.specs.Writers.{paged, sizes_of}
use Rattle.tree_level.specs.Levels.{AreSpelled}
use Rattle.tree_table.proofs.Takings.{leaf-emptied, leaf-shrunk}
use Rattle.tree_table.proofs.taking.shrink_leaf.Goals as goal

pub returns-then-as_slice-eq1-clause-left : goal.returns-then-as_slice-eq1-clause-left
returns-then-as_slice-eq1-clause-left g c = λ old told. (
  old,
  told,
  λ rowid row there opens.
      leaf-emptied (sizes_of g.S.PageRead c.args.store.now) c.args.page (paged g.S.PageRead c.args.store.now old) there c.requires.page c.requires.kind rowid row c.args.change c.requires.goes c.requires.within opens
      (omega (arith, c.if-as_slice-eq1.true, ap length c.as_slice.ensures)),
)

pub returns-clause-left : goal.returns-clause-left
returns-clause-left g c = λ old told.
    let S = g.S.PageRead in
    let a = c.args.store.now in
    let n = c.in_ok-write_without.ensures.written old told in (
      n.0,
      n.1,
      λ rowid row there opens up are.
          leaf-shrunk (sizes_of S a) c.args.page (paged S a old) there c.requires.page c.requires.kind rowid row c.args.change c.requires.goes c.requires.within opens (paged S c.write_without.new.store n.0) n.2
          (λ one. c.if-as_slice-eq1.false (omega (arith, one, ap length c.as_slice.ensures))) up (subst (λ (l : List (List ℕ)). AreSpelled TableInterior (S.usable a) up l) c.new.ensures.items are),
    )

pub returns-then-as_slice-eq1-clause-uses : goal.returns-then-as_slice-eq1-clause-uses
returns-then-as_slice-eq1-clause-uses g c = whenever-none g.S.PageRead (sizes_of g.S.PageRead c.args.store.now) c.args.store.now c.args.store.now refl refl
