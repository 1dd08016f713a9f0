use Rattle.std.proofs.Common.{ℤ, arith, of_z, subst, to_z, inl}
use Rattle.std.proofs.lemmas.Int.{to_z-of_z}
use Rattle.std.specs.Int.{w64}
use Rattle.tree_spec.specs.Worlds.{greatest_count}
use Rattle.tree_pages.specs.Writers.{paged, sizes_of}
use Rattle.tree_table.specs.Deletes.{DeletesRow}
use Rattle.imposter.proofs.writing.delete_row.Goals as goal

pub returns-in-Ok-clause-wrote : goal.returns-in-Ok-clause-wrote
returns-in-Ok-clause-wrote g c = λ old told.
    let S = g.S.PageRead in
    let a = c.args.store.now in
    let back = to_z-of_z w64 c.args.rowid c.ranges.rowid in
    let deleted = c.in-Ok.ensures in
    let r = deleted.deleted old told in (
      r.0,
      r.1,
      record {
        into = (c.in-Ok.field-0, subst (λ (n : ℤ). DeletesRow (sizes_of S a) c.args.target.now.root n greatest_count c.in-Ok.field-0 (paged S a old) (paged S c.delete.new.store r.0)) back r.2);
        fits = tt;
        grows = deleted.count;
        rises = deleted.rises;
      },
    )

pub returns-clause-refuses : goal.returns-clause-refuses
returns-clause-refuses g c = λ m front table behind trunks told world kind is. inl (c.in-Err.ensures.refuses m front table behind trunks told world kind is)
