use Rattle.std.proofs.Common.{◌<◌}
use Rattle.std.proofs.lemmas.Result.{err_from_is_err_and}
use Rattle.tree_spec.specs.Faults.{IsDamageOrOther}
use Rattle.tree_walk.specs.Payloads.{IsBadPayload}
use Rattle.tree_walk.specs.PayloadsLaws.{no_view}
use Rattle.tree_table.proofs.Used.{payload-other}
use Rattle.std.proofs.Common.{ℤ, List, length, slice_get, slice_index_or, ap, subst, to_z, of_z, arith}
use Rattle.std.proofs.Math.Path.{subst⁻¹}
use Rattle.std.proofs.lemmas.Int.{to_z-of_z}
use Rattle.std.specs.Int.{w64}
use Rattle.format_spec.specs.declared.CellView.{CellView}
use Rattle.page_store.specs.StoreLaws.{IfSome-told}
use Rattle.tree_pages.specs.Writers.{paged, sizes_of}
use Rattle.tree_walk.specs.Pages.{view_of}
use Rattle.tree_walk.specs.Payloads.{IsPayload as HasPayload}
use Rattle.tree_walk.specs.Places.{rowids}
use Rattle.tree_walk.specs.Seeks.{IsIndexOf}
use Rattle.tree_table.specs.declared.taking.Taken.{Taken}
use Rattle.tree_table.specs.Puts.{HasRowidAt}
use Rattle.tree_table.proofs.Edits.{got-low}
use Rattle.tree_table.proofs.Takings.{none-found, row-opens}
use Rattle.tree_table.proofs.taking.find_row.Goals as goal

pub returns-then-not-meets-clause-found : goal.returns-then-not-meets-clause-found
returns-then-not-meets-clause-found g c = λ m told there.
    let S = g.S.PageRead in
    let a = c.args.store.now in
    let page = c.args.page.now in
    let at = c.index_of-at.result in
    let back = to_z-of_z w64 c.args.rowid c.ranges.rowid in
    let index : IsIndexOf c.args.rowid (rowids page.views) at =
    subst (λ (x : ℤ). IsIndexOf x (rowids page.views) at) back (subst (λ (l : List CellView). IsIndexOf (to_z w64 (of_z w64 c.args.rowid)) (rowids l) at) c.as_slice-views.ensures c.index_of-at.ensures) in
    none-found (sizes_of S a) page (paged S a m) there c.requires.page c.requires.kind c.args.rowid at index
    (λ got.
    let met = c.meets.ensures.1 (subst⁻¹ (λ (x : ℤ). HasRowidAt x (slice_get c.as_slice-views.result.now at)) back (subst⁻¹ (λ (l : List CellView). HasRowidAt c.args.rowid (slice_get l at)) c.as_slice-views.ensures got)) in
    cc (met, c.if-not-meets.true))

pub read_payload-requires-clause-within : goal.read_payload-requires-clause-within
read_payload-requires-clause-within g c =
    let met = c.meets.ensures.0 (let no = c.if-not-meets.false in cc) in
    omega (arith, got-low _ c.as_slice-views.result.now c.index_of-at.result met, ap length c.as_slice-views.ensures)

pub view_at-requires : goal.view_at-requires
view_at-requires g c =
    let met = c.meets.ensures.0 (let no = c.if-not-meets.false in cc) in
    omega (arith, got-low _ c.as_slice-views.result.now c.index_of-at.result met, ap length c.as_slice-views.ensures)

pub returns-clause-found : goal.returns-clause-found
returns-clause-found g c = λ m told there.
    let S = g.S.PageRead in
    let a = c.args.store.now in
    let page = c.args.page.now in
    let at = c.index_of-at.result in
    let back = to_z-of_z w64 c.args.rowid c.ranges.rowid in
    let met = c.meets.ensures.0 (let no = c.if-not-meets.false in cc) in
    let got : HasRowidAt c.args.rowid (slice_get page.views at) =
    subst (λ (x : ℤ). HasRowidAt x (slice_get page.views at)) back (subst (λ (l : List CellView). HasRowidAt (to_z w64 (of_z w64 c.args.rowid)) (slice_get l at)) c.as_slice-views.ensures met) in
    let payload = c.in_ok-payload.payload in
    let row : Taken = record { payload = payload; old = c.chain_of-old.result } in
    row-opens (sizes_of S a) page (paged S a m) there c.requires.page c.requires.kind c.args.rowid row at page.right c.view_at.result got c.view_at.ensures c.chain_of-old.ensures.first c.chain_of-old.ensures.bytes
    (IfSome-told (λ p. (d : CellView) → HasPayload p (S.size a) (S.usable a) (S.count a) (view_of page) at (slice_index_or page.views at d) payload) m told c.in_ok-payload.ensures.pages.answer)

pub returns-clause-within : goal.returns-clause-within
returns-clause-within g c =
    let met = c.meets.ensures.0 (let no = c.if-not-meets.false in cc) in
    omega (arith, got-low _ c.as_slice-views.result.now c.index_of-at.result met, ap length c.as_slice-views.ensures)

pub returns-in_err-payload-clause-refuses : goal.returns-in_err-payload-clause-refuses
returns-in_err-payload-clause-refuses g c = λ m told there.
    let S = g.S.PageRead in
    let a = c.args.store.now in
    let z = sizes_of S a in
    let page = c.args.page.now in
    let at = c.index_of-at.result in
    let fault = c.in_err-payload.field-0.0 in
    let met = c.meets.ensures.0 (let no = c.if-not-meets.false in cc) in
    let low : at < length page.views = omega (arith, got-low _ c.as_slice-views.result.now c.index_of-at.result met, ap length c.as_slice-views.ensures) in
    let bad : IsDamageOrOther (IsBadPayload m (S.size a) (S.usable a) (S.count a) (view_of page) at) fault =
    IfSome-told (λ p. IsDamageOrOther (IsBadPayload p (S.size a) (S.usable a) (S.count a) (view_of page) at) fault) m told c.in_err-payload.ensures.pages.answer in
    let p = err_from_is_err_and c.from_residual.result c.from_residual.ensures.1 in
    rw (p.1, p.2)
    (payload-other z (paged S a m) page there c.requires.page c.requires.kind at low no_view fault bad)
