-- Values that have a canonical record (Database File Format, section 2.1).
use Rattle.std.specs.Prelude.{ℕ, ◌+◌, ◌*◌, ◌^◌, ◌<◌, List, length}
use Rattle.std.specs.List.{AllByRecursion}
use Rattle.std.specs.Int.{w64}
use Rattle.std.specs.Int.RustNames.{FitsSigned}
use Rattle.rbu_value.specs.declared.value.Value.{Value}
use Rattle.rbu_value.specs.declared.value.Value.TheVariants.{Null, Int, Text, Blob}
use Rattle.format_spec.specs.Record.{record_header}

-- an integer fits 64 bits, and so does the serial type of bytes
abbrev pub IsStored : Value → Type 0
IsStored Null = Unit {0}
IsStored (Int z) = FitsSigned w64 z
IsStored (Text bytes) = 2 * length bytes + 13 < 2 ^ 64
IsStored (Blob bytes) = 2 * length bytes + 12 < 2 ^ 64

-- values that have a record: what they are made of fits, and so does the size of the header
pub record HaveRecord (format : ℕ) (values : List Value) : Type 0 where
  pub stored : AllByRecursion IsStored values
  pub header : length (record_header format values) < 2 ^ 64
