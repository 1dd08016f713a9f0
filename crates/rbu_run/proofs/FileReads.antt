-- What the reading of a file gives.
use Rattle.std.proofs.Common.{◌≡◌, ◌≤◌, ℕ, ◌-◌, List, ◌++◌, length, take, drop, replicate, min, Option, Some, None, refl, sym, ap, ap₂, ◌∙◌, arith, length-take}
use Rattle.std.proofs.lemmas.List.{take-append-drop, drop-replicate}
use Rattle.common_spec.specs.Reading.{Reads, OrNone}
use Rattle.byte_fields.specs.Bytes.{resized, part_of}

-- zeros stand where the file gave nothing
pub missing-zeros : (zeros read : List ℕ) (n : ℕ) → zeros ≡ replicate (length zeros) 0 → drop n read ≡ drop n zeros → drop n read ≡ replicate (length zeros - n) 0
missing-zeros zeros read n are rest = rest ∙ ap (drop n) are ∙ drop-replicate n (length zeros) 0

-- so the bytes are the file's, as if it had the length that was promised
pub read-resized : (bytes zeros read : List ℕ) (n : ℕ) → zeros ≡ replicate (length zeros) 0 → length read ≡ length zeros → n ≤ length zeros →
    take n read ≡ part_of bytes 0 (length zeros) → drop n read ≡ drop n zeros → read ≡ resized bytes (length zeros)
read-resized bytes zeros read n are long bound copied rest =
    let count : n ≡ min (length zeros) (length bytes) = omega (arith, length-take n read, length-take (length zeros) bytes, ap length copied) in
    let left : length zeros - n ≡ length zeros - length bytes = omega arith in
    sym (take-append-drop n read) ∙ ap₂ (λ (a b : List ℕ). a ++ b) copied (missing-zeros zeros read n are rest ∙ ap (λ (k : ℕ). replicate k 0) left)

-- nothing is found where nothing has P
OrNone-only_none : {A : Type 0} {P : A → Type 0} → ((x : A) → ¬ P x) → (other : Option A) → OrNone P other → None ≡ other
OrNone-only_none none None has = refl
OrNone-only_none none (Some x) has = absurd (none x has)

pub none-read : {A : Type 0} {P : A → Type 0} → ((x : A) → ¬ P x) → Reads (OrNone P) None
none-read none = record { holds = none; only = OrNone-only_none none }
