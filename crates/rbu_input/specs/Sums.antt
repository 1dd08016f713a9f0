-- How many prepared rows there are, and the bytes of their records, of which both have limits (this project's).
use Rattle.std.specs.Prelude.{◌≡◌, ℕ, suc, ◌+◌, ◌≤◌, nat_lt, if◌then◌else◌, List, length, filter, Option, Some, None, sum_by}
use Rattle.refusal.specs.declared.Measure.TheVariants as measure
use Rattle.prepared_spec.specs.declared.input_fault.InputFault.{InputFault}
use Rattle.prepared_spec.specs.declared.input_fault.InputFault.TheVariants.{TooMuch}
use Rattle.prepared_spec.specs.Inputs.{Input, is_row, input_bytes}
use Rattle.rbu_input.specs.declared.sums.Sums.{Sums}

-- the sums are within their limits
pub record AreWithin (sums : Sums) : Type 0 where
  pub rows : sums.rows ≤ 1000000
  pub bytes : sums.bytes ≤ 268435456

-- they are those of the rows among what was found
pub record AreSums (before : List Input) (sums : Sums) : Type 0 where
  pub rows : sums.rows ≡ length (filter is_row before)
  pub bytes : sums.bytes ≡ sum_by input_bytes before

-- the limit that one row more passes, behind so many rows with so many bytes
abbrev pub sums_fault : ℕ → ℕ → ℕ → Option InputFault
sums_fault rows bytes more =
    if nat_lt 1000000 (suc rows) then Some (TooMuch measure.Rows (suc rows) 1000000)
    else (if nat_lt 268435456 (bytes + more) then Some (TooMuch measure.Bytes (bytes + more) 268435456) else None)
