use Rattle.std.proofs.Common.{ℤ, List, slice_get, ap, subst, length, to_z, of_z, arith}
use Rattle.std.proofs.Math.Path.{subst⁻¹}
use Rattle.std.proofs.lemmas.Int.{to_z-of_z}
use Rattle.std.specs.Int.{w64}
use Rattle.format_spec.specs.declared.CellView.{CellView}
use Rattle.tree_walk.specs.Places.{rowids}
use Rattle.tree_walk.specs.Seeks.{IsIndexOf}
use Rattle.tree_table.specs.Puts.{HasRowidAt}
use Rattle.tree_table.proofs.Edits.{edit-met, edit-put, got-low, index-within}
use Rattle.tree_table.proofs.leaf.leaf_edit.Goals as goal

pub returns-then-not-meets-clause-within : goal.returns-then-not-meets-clause-within
returns-then-not-meets-clause-within c = omega (arith, index-within _ c.as_slice-views.result.now c.index_of-at.result c.index_of-at.ensures, ap length c.as_slice-views.ensures)

pub returns-then-not-meets-clause-edit : goal.returns-then-not-meets-clause-edit
returns-then-not-meets-clause-edit c usable cells cell has is =
    let page = c.args.page.now in
    let at = c.index_of-at.result in
    let r = to_z-of_z w64 c.args.rowid c.ranges.rowid in
    let index : IsIndexOf c.args.rowid (rowids page.views) at =
    subst (λ (x : ℤ). IsIndexOf x (rowids page.views) at) r (subst (λ (l : List CellView). IsIndexOf (to_z w64 (of_z w64 c.args.rowid)) (rowids l) at) c.as_slice-views.ensures c.index_of-at.ensures) in
    edit-put c.args.rowid cells cell page.views has.views_are is at index
    (λ got.
    let met = c.meets.ensures.1 (subst⁻¹ (λ (x : ℤ). HasRowidAt x (slice_get c.as_slice-views.result.now at)) r (subst⁻¹ (λ (l : List CellView). HasRowidAt c.args.rowid (slice_get l at)) c.as_slice-views.ensures got)) in
    cc (met, c.if-not-meets.true))

pub view_at-requires : goal.view_at-requires
view_at-requires c =
    let met = c.meets.ensures.0 (let no = c.if-not-meets.false in cc) in
    omega (arith, got-low _ c.as_slice-views.result.now c.index_of-at.result met, ap length c.as_slice-views.ensures)

pub returns-clause-within : goal.returns-clause-within
returns-clause-within c =
    let met = c.meets.ensures.0 (let no = c.if-not-meets.false in cc) in
    omega (arith, got-low _ c.as_slice-views.result.now c.index_of-at.result met, ap length c.as_slice-views.ensures)

pub returns-clause-edit : goal.returns-clause-edit
returns-clause-edit c usable cells cell has is =
    let page = c.args.page.now in
    let at = c.index_of-at.result in
    let r = to_z-of_z w64 c.args.rowid c.ranges.rowid in
    let index : IsIndexOf c.args.rowid (rowids page.views) at =
    subst (λ (x : ℤ). IsIndexOf x (rowids page.views) at) r (subst (λ (l : List CellView). IsIndexOf (to_z w64 (of_z w64 c.args.rowid)) (rowids l) at) c.as_slice-views.ensures c.index_of-at.ensures) in
    let met = c.meets.ensures.0 (let no = c.if-not-meets.false in cc) in
    let got : HasRowidAt c.args.rowid (slice_get page.views at) =
    subst (λ (x : ℤ). HasRowidAt x (slice_get page.views at)) r (subst (λ (l : List CellView). HasRowidAt (to_z w64 (of_z w64 c.args.rowid)) (slice_get l at)) c.as_slice-views.ensures met) in
    edit-met c.args.rowid cells cell page.views has.views_are is at index c.view_at.result c.chain_of.result.first c.chain_of.result.bytes got c.view_at.ensures c.chain_of.ensures.first c.chain_of.ensures.bytes
