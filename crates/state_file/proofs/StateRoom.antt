-- The rows of a state that can be saved fit their page.
use Rattle.std.proofs.Common.{◌≡◌, ℕ, pos, ◌+◌, ◌*◌, ◌≤◌, ◌<◌, ◌^◌, List, [], ◌∷◌, ◌++◌, length, Option, Some, None, IfSome, ℤ, refl, arith}
use Rattle.std.specs.List.{sum_by}
use Rattle.std.proofs.lemmas.List.Sums.{sum_by-cons}
use Rattle.rbu_value.specs.declared.value.Value.{Value}
use Rattle.rbu_value.specs.declared.value.Value.TheVariants as value
use Rattle.format_spec.specs.Record.{body}
use Rattle.state_file.specs.declared.state.SavedState.{SavedState}
use Rattle.state_file.specs.declared.state.DataKey.{DataKey}
use Rattle.state_file.specs.declared.state.DataKey.TheVariants.{Absent, Null, Name}
use Rattle.state_file.specs.State.{text_or_null, batch_value, state_values, values_by_key, if_any, IsShortName, IsShortBatch, CanSave, sums_number}
use Rattle.state_file.specs.StateFile.{rows_from, leaf_room}
use Rattle.state_file.proofs.RowCells.{integer-body, rows_from-room}

name-body : (name : Option (List ℕ)) → IsShortName name → length (body 4 (text_or_null name)) ≤ 255
name-body None short = omega arith
name-body (Some bytes) short = short

-- each value's body is short
AreShort : List Value → Type 0
AreShort values = sum_by (λ value. length (body 4 value)) values ≤ 255 * length values

more : (value : Value) (values : List Value) → length (body 4 value) ≤ 255 → AreShort values → AreShort (value ∷ values)
unfolding AreShort
more value values first rest = omega (arith, sum_by-cons (λ (v : Value). length (body 4 v)) value values)

none : AreShort []
unfolding AreShort
none = omega arith

integer : (z : ℤ) → length (body 4 (value.Int z)) ≤ 255
integer z = omega (arith, integer-body z)

batch-short : (batch : DataKey) → IsShortBatch batch → AreShort (if_any (batch_value batch)) × (length (if_any (batch_value batch)) ≡ 1)
batch-short Absent short = absurd short
batch-short Null short = (more value.Null [] (omega arith) none, refl)
batch-short (Name name) short = (more (value.Text name) [] short none, refl)

room-by_sum : (values : List Value) → AreShort values → length values ≤ 9 → leaf_room (rows_from 1 values) ≤ 4096
unfolding AreShort
room-by_sum values short few = omega (arith, rows_from-room 1 values (omega arith) (omega arith))

pub state-room : (state : SavedState) → CanSave state → leaf_room (rows_from 1 (values_by_key (state_values state))) ≤ 4096
state-room state ok =
    let batch = batch-short state.batch ok.batch in
    let all : AreShort (values_by_key (state_values state)) =
    more _ _ (integer (pos state.stage))
    (more _ _ (name-body state.table ok.table)
    (more _ _ (name-body state.index ok.index)
    (more _ _ (integer (pos state.row))
    (more _ _ (integer (pos state.progress))
    (more _ _ (integer (sums_number state.sums))
    (more _ _ (integer (pos state.change_counter))
    (more _ _ (integer (pos state.log_size))
    batch.0))))))) in
    room-by_sum (values_by_key (state_values state)) all (omega (arith, batch.1))
