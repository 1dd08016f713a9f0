-- Bytes that are equal one by one have equal numbers and parts at their places: crates above cite these facts in their proofs.
use Rattle.std.proofs.Common.{◌≡◌, ℕ, ◌+◌, ◌-◌, ◌<◌, ◌≤◌, ◌⊎◌, List, ◌++◌, length, take, drop, slice_index, refl, sym, ap, ◌∙◌, inl, inr, arith, length-append, length-drop}
use Rattle.std.proofs.lemmas.List.{ext_get_or, get_or-drop, get_or-take, get_or_append_left, get_or-append_right, length-take, take_at, drop_at, drop-drop}
use borrow.Rule.Slice.PartMut.{put_mid}
use Rattle.byte_fields.specs.Bytes.{part_of}
use Rattle.byte_fields.specs.Numbers.{number_at}
use Rattle.byte_fields.specs.NumbersLaws.{big_from-same}

-- the bytes from one place on are those from another place on in other bytes, so many of them
abbrev pub SameBytes : ℕ → List ℕ → ℕ → List ℕ → ℕ → Type 0
SameBytes size a place b other = (k : ℕ) → k < size → slice_index a (place + k) ≡ slice_index b (other + k)

pub number_at-same : (size : ℕ) (a : List ℕ) (place : ℕ) (b : List ℕ) (other : ℕ) → SameBytes size a place b other → number_at place size a ≡ number_at other size b
number_at-same size a place b other same =
    big_from-same 0 size (drop place a) (drop other b) (λ k low high. get_or-drop place a k 0 ∙ same k (omega arith) ∙ sym (get_or-drop other b k 0))

-- how many bytes a part has that ends within the bytes
pub length-part_of : (bytes : List ℕ) (place size : ℕ) → place + size ≤ length bytes → length (part_of bytes place size) ≡ size
length-part_of bytes place size inside = omega (arith, length-take size (drop place bytes), length-drop place bytes)

pub part_of-same : (size : ℕ) (a : List ℕ) (place : ℕ) (b : List ℕ) (other : ℕ) → place + size ≤ length a → other + size ≤ length b
    → SameBytes size a place b other → part_of a place size ≡ part_of b other size
part_of-same size a place b other inside also same =
    ext_get_or 0 (part_of a place size) (part_of b other size) (length-part_of a place size inside ∙ sym (length-part_of b other size also))
    (λ k low.
    let below : k < size = omega (arith, length-part_of a place size inside) in
    get_or-take size (drop place a) k 0 below ∙ get_or-drop place a k 0 ∙ same k below ∙ sym (get_or-drop other b k 0) ∙ sym (get_or-take size (drop other b) k 0 below))

-- the bytes with others written over them from a place on
abbrev pub with_part : ℕ → List ℕ → List ℕ → List ℕ
with_part place part bytes = take place bytes ++ (part ++ drop (place + length part) bytes)

module _ (place : ℕ) (part bytes : List ℕ) (room : place + length part ≤ length bytes) where
  front_length : length (take place bytes) ≡ place
  front_length = length-take place bytes ∙ omega arith

  pub length-with_part : length (with_part place part bytes) ≡ length bytes
  length-with_part = omega (arith, length-append (take place bytes) (part ++ drop (place + length part) bytes), length-append part (drop (place + length part) bytes), front_length, length-drop (place + length part) bytes)

  -- the part that was written
  pub part_of-written : part_of (with_part place part bytes) place (length part) ≡ part
  part_of-written =
      ap (take (length part)) (drop_at (take place bytes) (part ++ drop (place + length part) bytes) place front_length)
      ∙ take_at part (drop (place + length part) bytes) (length part) refl

  -- a byte that is none of the part's stays
  pub slice_index-apart_from_part : (k : ℕ) → (k < place) ⊎ (place + length part ≤ k) → slice_index (with_part place part bytes) k ≡ slice_index bytes k
  slice_index-apart_from_part k (inl before) =
      get_or_append_left (take place bytes) (part ++ drop (place + length part) bytes) 0 k (omega (arith, front_length)) ∙ get_or-take place bytes k 0 before
  slice_index-apart_from_part k (inr behind) =
      let back : place + length part + (k - place - length part) ≡ k = omega arith in
      get_or-append_right (take place bytes) (part ++ drop (place + length part) bytes) place k 0 front_length (omega arith)
      ∙ get_or-append_right part (drop (place + length part) bytes) (length part) (k - place) 0 refl (omega arith)
      ∙ get_or-drop (place + length part) bytes (k - place - length part) 0
      ∙ ap (slice_index bytes) back

-- a part that was written through a loan of its place
pub put_mid-part : (place : ℕ) (part written bytes : List ℕ) → written ≡ part → put_mid place (place + length part - place) bytes written ≡ with_part place part bytes
put_mid-part place part written bytes e =
    let size : place + length part - place ≡ length part = omega arith in
    ap (λ (w : List ℕ). take place bytes ++ (w ++ drop (place + length part - place) (drop place bytes))) e
    ∙ ap (λ (n : ℕ). take place bytes ++ (part ++ drop n (drop place bytes))) size
    ∙ ap (λ (b : List ℕ). take place bytes ++ (part ++ b)) (drop-drop (length part) place bytes)
