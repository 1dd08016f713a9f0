-- Values whose bytes are lent.
use Rattle.std.specs.Prelude.{ℕ, List, FitsSigned}
use Rattle.std.specs.Int.{w64}
use Rattle.rbu_value.specs.declared.value.Value.{Value}
use Rattle.rbu_value.specs.declared.value.Value.TheVariants as value
use Rattle.state_file.specs.declared.lent.Lent.{Lent}
use Rattle.state_file.specs.declared.lent.Lent.TheVariants.{Null, Int, Text, Blob}

-- the value
abbrev pub value_of : Lent → Value
value_of Null = value.Null
value_of (Int z) = value.Int z
value_of (Text bytes) = value.Text bytes.now
value_of (Blob bytes) = value.Blob bytes.now

-- an integer has 64 bits
abbrev pub IsInRange : Value → Type 0
IsInRange value.Null = Unit {0}
IsInRange (value.Int z) = FitsSigned w64 z
IsInRange (value.Text bytes) = Unit {0}
IsInRange (value.Blob bytes) = Unit {0}
