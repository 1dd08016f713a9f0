-- What a read into zeros gives.
use Rattle.std.proofs.Common.{◌≡◌, ◌≤◌, ℕ, ◌-◌, List, ◌++◌, length, take, drop, replicate, min, sym, ap, ap₂, ◌∙◌, arith, length-take}
use Rattle.std.proofs.lemmas.List.{take-append-drop, drop-replicate}
use Rattle.byte_fields.specs.Bytes.{resized, part_of}

-- the bytes are the file's from a place on, as if it had as many as were asked for
pub read-resized : (bytes read : List ℕ) (at n size : ℕ) → length read ≡ size → n ≤ size → take n read ≡ part_of bytes at size → drop n read ≡ drop n (replicate size 0) → read ≡ resized (drop at bytes) size
read-resized bytes read at n size long bound copied rest =
    let count : n ≡ min size (length (drop at bytes)) = omega (arith, length-take n read, length-take size (drop at bytes), ap length copied, long) in
    let left : size - n ≡ size - length (drop at bytes) = omega arith in
    let behind : drop n read ≡ replicate (size - length (drop at bytes)) 0 = rest ∙ drop-replicate n size 0 ∙ ap (λ (k : ℕ). replicate k 0) left in
    sym (take-append-drop n read) ∙ ap₂ (λ (a b : List ℕ). a ++ b) copied behind
