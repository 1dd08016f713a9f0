use Rattle.std.proofs.Common.{ℕ, ℤ, List, OnOk, IfErr, refl, arith, of_z, subst, to_z}
use Rattle.std.proofs.Math.Path.{subst⁻¹}
use Rattle.std.proofs.lemmas.Int.{to_z-of_z}
use Rattle.std.specs.Int.{w64}
use Rattle.tree_pages.specs.Writers.{Becomes, paged, sizes_of}
use Rattle.row_writes.specs.declared.write.RowWrite.{RowWrite}
use Rattle.row_writes.specs.declared.write.RowWrite.TheVariants.{Nothing, Put, Delete}
use Rattle.imposter.specs.Writes.{DoesWrite, IsTreeOrLong, RefusesWrite}
use Rattle.imposter.proofs.writing.write_row.Goals as goal

pub returns-in-Nothing-clause-wrote : goal.returns-in-Nothing-clause-wrote
returns-in-Nothing-clause-wrote g c = λ old told.
    let S = g.S.PageRead in
    let a = c.args.store.now in (
      old,
      told,
      subst⁻¹ (λ (w : RowWrite). DoesWrite (sizes_of S a) c.args.target.now.root c.args.rowid w (paged S a old) (paged S a old)) c.in-Nothing.is (record { into = refl; fits = tt; grows = omega arith; rises = omega arith }),
    )

pub returns-in-Put-clause-wrote : goal.returns-in-Put-clause-wrote
returns-in-Put-clause-wrote g c =
    let S = g.S.PageRead in
    let a = c.args.store.now in
    let back = to_z-of_z w64 c.args.rowid c.ranges.rowid in
    let result = c.put_record.result in
    let wrote = λ (r : ℤ) (w : RowWrite). OnOk result (Becomes S a c.put_record.new.store (DoesWrite (sizes_of S a) c.args.target.now.root r w)) in
    subst⁻¹ (wrote c.args.rowid) c.in-Put.is (subst (λ (b : List ℕ). wrote c.args.rowid (Put b)) c.as_slice.ensures (subst (λ (r : ℤ). wrote r (Put c.as_slice.result.now)) back c.put_record.ensures.wrote))

pub returns-in-Put-clause-refuses : goal.returns-in-Put-clause-refuses
returns-in-Put-clause-refuses g c =
    let S = g.S.PageRead in
    let a = c.args.store.now in
    let back = to_z-of_z w64 c.args.rowid c.ranges.rowid in
    let result = c.put_record.result in
    let refuses = λ (r : ℤ) (w : RowWrite). RefusesWrite S c.args.target.now r w a c.put_record.new.store result in
    subst⁻¹ (refuses c.args.rowid) c.in-Put.is (subst (λ (b : List ℕ). refuses c.args.rowid (Put b)) c.as_slice.ensures (subst (λ (r : ℤ). refuses r (Put c.as_slice.result.now)) back c.put_record.ensures.refuses))

pub returns-in-Put-clause-records : goal.returns-in-Put-clause-records
returns-in-Put-clause-records g c =
    let back = to_z-of_z w64 c.args.rowid c.ranges.rowid in
    subst (λ (r : ℤ). IfErr c.put_record.result (IsTreeOrLong c.args.target.now r)) back c.put_record.ensures.records

pub returns-in-Delete-clause-wrote : goal.returns-in-Delete-clause-wrote
returns-in-Delete-clause-wrote g c =
    let S = g.S.PageRead in
    let a = c.args.store.now in
    let back = to_z-of_z w64 c.args.rowid c.ranges.rowid in
    let result = c.delete_row.result in
    let wrote = λ (r : ℤ) (w : RowWrite). OnOk result (Becomes S a c.delete_row.new.store (DoesWrite (sizes_of S a) c.args.target.now.root r w)) in
    subst⁻¹ (wrote c.args.rowid) c.in-Delete.is (subst (λ (r : ℤ). wrote r Delete) back c.delete_row.ensures.wrote)

pub returns-in-Delete-clause-refuses : goal.returns-in-Delete-clause-refuses
returns-in-Delete-clause-refuses g c =
    let S = g.S.PageRead in
    let a = c.args.store.now in
    let back = to_z-of_z w64 c.args.rowid c.ranges.rowid in
    let result = c.delete_row.result in
    let refuses = λ (r : ℤ) (w : RowWrite). RefusesWrite S c.args.target.now r w a c.delete_row.new.store result in
    subst⁻¹ (refuses c.args.rowid) c.in-Delete.is (subst (λ (r : ℤ). refuses r Delete) back c.delete_row.ensures.refuses)

pub returns-in-Delete-clause-records : goal.returns-in-Delete-clause-records
returns-in-Delete-clause-records g c =
    let back = to_z-of_z w64 c.args.rowid c.ranges.rowid in
    subst (λ (r : ℤ). IfErr c.delete_row.result (IsTreeOrLong c.args.target.now r)) back c.delete_row.ensures.records
