-- What a read into zeros gives.
use Rattle.std.proofs.Common.{◌≡◌, ◌≤◌, ℕ, ◌+◌, ◌-◌, List, ◌++◌, length, take, drop, replicate, min, Option, Some, None, IfSome, option_map, sym, ap, ap₂, ◌∙◌, inl, inr, arith, length-take, take_all}
use Rattle.std.proofs.lemmas.Bool.{cases_lt}
use Rattle.std.proofs.Math.Seq.{take-append-add}
use Rattle.std.proofs.lemmas.List.{take-append-drop, take-append-le, take-replicate, take-take, drop-replicate}
use Rattle.byte_fields.specs.Bytes.{resized, part_of}
use Rattle.byte_fields.specs.BytesLaws.{resized-short}

-- the bytes are the file's from a place on, as if it had as many as were asked for
pub read-resized : (bytes read : List ℕ) (at n size : ℕ) → length read ≡ size → n ≤ size → take n read ≡ part_of bytes at size → drop n read ≡ drop n (replicate size 0) → read ≡ resized (drop at bytes) size
read-resized bytes read at n size long bound copied rest =
    let count : n ≡ min size (length (drop at bytes)) = omega (arith, length-take n read, length-take size (drop at bytes), ap length copied, long) in
    let left : size - n ≡ size - length (drop at bytes) = omega arith in
    let behind : drop n read ≡ replicate (size - length (drop at bytes)) 0 = rest ∙ drop-replicate n size 0 ∙ ap (λ (k : ℕ). replicate k 0) left in
    sym (take-append-drop n read) ∙ ap₂ (λ (a b : List ℕ). a ++ b) copied behind

-- what holds of what a told state is seen as
pub seen-as : {S T : Type 0} (see : S → T) (P : T → Type 0) (told : Option S) → IfSome told (λ f. P (see f)) → IfSome (option_map see told) P
seen-as see P None h = tt
seen-as see P (Some f) h = h

-- the first bytes of as many as are asked for
pub take-resized : (bytes : List ℕ) (n size : ℕ) → n ≤ size → take n (resized bytes size) ≡ resized bytes n
take-resized bytes n size within =
    elim (cases_lt (length bytes) n) [
      | inl short ↦
          let zeros : List ℕ = replicate (size - length bytes) 0 in
          let whole : take size bytes ≡ bytes = take_all size bytes (omega arith) in
          let place : n ≡ length bytes + (n - length bytes) = omega arith in
          ap (λ (b : List ℕ). take n (b ++ zeros)) whole ∙ ap (λ (k : ℕ). take k (bytes ++ zeros)) place ∙ take-append-add bytes zeros (n - length bytes)
          ∙ ap (λ (b : List ℕ). bytes ++ b) (take-replicate (n - length bytes) (size - length bytes) 0 (omega arith))
          ∙ ap (λ (b : List ℕ). b ++ replicate (n - length bytes) 0) (sym (take_all n bytes (omega arith)))
      | inr long ↦
          take-append-le n (take size bytes) (replicate (size - length bytes) 0) (omega (arith, length-take size bytes))
          ∙ take-take n size bytes within ∙ sym (resized-short bytes n long)
    ]
