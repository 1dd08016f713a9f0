use Rattle.std.proofs.Common.{◌≡◌, ℕ, ◌+◌, ◌≤◌, Bool, true, false, if◌then◌else◌, List, length, take, sym, ap, ◌∙◌, arith}
use Rattle.std.proofs.Math.Seq.{length-take-le}
use Rattle.std.specs.List.{list_any}
use Rattle.rbu_value.specs.declared.order.Collation.{Collation}
use Rattle.rbu_value.specs.declared.value.Value.{Value}
use Rattle.database_spec.specs.Keys.{is_null}
use Rattle.database_spec.specs.RowsLaws.{record-one}
use Rattle.key_order.specs.OrdersLaws.{entry-long}
use Rattle.index_lookup.proofs.nulls.has_null.Goals as goal

fewer-columns : (last : Bool) (columns : List (Collation × Bool)) (n : ℕ) → (if last then length columns + 1 else length columns) ≤ n → length columns ≤ n
fewer-columns true columns n low = omega (arith, low)
fewer-columns false columns n low = low

pub slice_bounds-any_null-end : goal.slice_bounds-any_null-end
slice_bounds-any_null-end c =
    let order = c.args.order.now in
    let values = c.in-Ok.values.items in
    let long = entry-long order c.args.payload.now values c.requires.entry c.in-Ok.ensures.holds in
    let low : length c.as_slice-columns.result.now ≤ length c.as_slice.result.now =
    omega (arith, fewer-columns order.rowid_last order.columns (length values) long, ap length c.as_slice-columns.ensures, ap length c.as_slice.ensures.value) in
    sym (length-take-le (length c.as_slice-columns.result.now) c.as_slice.result.now low)

pub returns : goal.returns
returns c = λ values is.
    let columns = c.args.order.now.columns in
    let slice = c.as_slice.result.now in
    let same : values ≡ slice = record-one c.args.payload.now values c.in-Ok.values.items is c.in-Ok.ensures.holds ∙ sym c.as_slice.ensures.value in
    let first : list_any is_null (take (length columns) values) ≡ list_any is_null (take (length columns) slice) = ap (λ (v : List Value). list_any is_null (take (length columns) v)) same in
    let last : list_any is_null (take (length columns) slice) ≡ list_any is_null (take (length c.as_slice-columns.result.now) slice) =
    ap (λ (l : List (Collation × Bool)). list_any is_null (take (length l) slice)) (sym c.as_slice-columns.ensures) in
    first ∙ last ∙ sym c.any_null.ensures
