-- Parts of the rows that several proofs take.
use Rattle.std.proofs.Common.{ℕ, ◌<◌, [], ◌∷◌, refl, arith, rules}
use Rattle.format_spec.specs.Varint.{IsVarint}

-- a number below 128 is spelled by its byte
pub varint-one_byte : (n : ℕ) → n < 128 → IsVarint (n ∷ []) n
varint-one_byte n low = record { front = []; last = n; whole = refl; at_most_nine = omega arith; high = search rules; low = low; sum = omega arith }
