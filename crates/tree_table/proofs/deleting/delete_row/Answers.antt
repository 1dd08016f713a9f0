use Rattle.std.proofs.Common.{◌≡◌, ℕ, ℤ, refl, ◌∙◌, ap, subst, to_z, of_z, arith}
use Rattle.std.proofs.lemmas.Int.{to_z-of_z}
use Rattle.std.proofs.lemmas.Result.{IfErr-weaker, IfOk-weaker, err_from_is_err_and, on_ok_weaker}
use Rattle.std.specs.Int.{w64}
use Rattle.page_spec.specs.FreePages.{due_pages}
use Rattle.tree_pages.specs.Takes.{RisesBy}
use Rattle.tree_pages.specs.TakesLaws.{rises-read}
use Rattle.tree_pages.specs.Writers.{paged, sizes_of}
use Rattle.tree_pages.specs.WritersLaws.{sizes-same}
use Rattle.tree_table.specs.Deletes.{DeletesTable}
use Rattle.tree_table.proofs.LeafDeletes.{from-into, other-short, table-short}
use Rattle.tree_table.proofs.DeletedWorlds.{into-deletes_same}
use Rattle.tree_table.proofs.deleting.delete_row.Goals as goal

pub returns-in_err-alone-clause-refuses : goal.returns-in_err-alone-clause-refuses
returns-in_err-alone-clause-refuses g c = λ m told.
    let S = g.S.PageRead in
    let a = c.args.store.now in
    let p = err_from_is_err_and c.from_residual.result c.from_residual.ensures.1 in
    rw (p.1, p.2) (other-short (sizes_of S a) 24 2 c.args.limit c.args.root (S.count c.delete_alone.new.store) (paged S a m) c.in_err-alone.field-0.0 (c.in_err-alone.ensures.refuses m told))

pub returns-in-Some-clause-deleted : goal.returns-in-Some-clause-deleted
returns-in-Some-clause-deleted g c = λ old told.
    let S = g.S.PageRead in
    let a = c.args.store.now in
    let back = to_z-of_z w64 c.args.rowid c.ranges.rowid in
    let deleted = rw c.in-Some.is at c.in_ok-alone.ensures.deleted in
    let r = deleted old told in
    (r.0, r.1, subst (λ (q : ℤ). DeletesTable (sizes_of S a) c.args.root q c.in-Some.row (paged S a old) (paged S c.delete_alone.new.store r.0)) back r.2)

pub returns-in-Some-clause-rises : goal.returns-in-Some-clause-rises
returns-in-Some-clause-rises g c = omega (arith, ap (due_pages (g.S.PageRead.size c.args.store.now)) c.in_ok-alone.ensures.count)

pub returns-in-None-clause-deleted : goal.returns-in-None-clause-deleted
returns-in-None-clause-deleted g c =
    let S = g.S.PageRead in
    let a = c.args.store.now in
    let s = c.delete_alone.new.store in
    let alone = c.in_ok-alone.ensures in
    let back = to_z-of_z w64 c.args.rowid c.ranges.rowid in
    let same = rw c.in-None.is at alone.none in
    IfOk-weaker c.delete_root.result _ _ (λ taken deletes. λ old told.
    let r = deletes old (same ∙ told) in
    let v = paged S c.delete_root.new.store r.0 in (
      r.0,
      r.1,
      from-into (sizes_of S a) c.args.root c.args.rowid taken (paged S a old) v
          (into-deletes_same (sizes_of S s) (sizes_of S a) c.args.root c.args.root (to_z w64 (of_z w64 c.args.rowid)) c.args.rowid (S.count s) (S.count a) taken old v (sizes-same S a s alone.owes.stays) refl back alone.count r.2),
    )) c.delete_root.ensures.deleted

pub returns-in-None-clause-rises : goal.returns-in-None-clause-rises
returns-in-None-clause-rises g c =
    let S = g.S.PageRead in
    let a = c.args.store.now in
    let s = c.delete_alone.new.store in
    let alone = c.in_ok-alone.ensures in
    on_ok_weaker c.delete_root.result (λ (rises : RisesBy S 50 s c.delete_root.new.store). let all = rises-read S 50 a s c.delete_root.new.store alone.owes.stays.size alone.count rises in omega (arith, all)) c.delete_root.ensures.rises

pub returns-in-None-clause-refuses : goal.returns-in-None-clause-refuses
returns-in-None-clause-refuses g c = λ m told.
    let S = g.S.PageRead in
    let a = c.args.store.now in
    let s = c.delete_alone.new.store in
    let alone = c.in_ok-alone.ensures in
    let same = rw c.in-None.is at alone.none in
    IfErr-weaker c.delete_root.result _ _
    (λ fault short. table-short (sizes_of S s) (sizes_of S a) 24 2 c.args.limit c.args.root (S.count s) (S.count a) (S.count c.delete_root.new.store) m fault (sizes-same S a s alone.owes.stays) alone.count short)
    (c.delete_root.ensures.refuses m (same ∙ told))
