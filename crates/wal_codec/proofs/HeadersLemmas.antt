-- Two writes that fill an array, and what they make of a header.
use Rattle.std.proofs.Common.{◌≡◌, ℕ, ◌+◌, Bool, List, [], ◌∷◌, ◌++◌, length, take, drop, slice_index, refl, ap, ap₂, ◌∙◌, arith}
use Rattle.std.specs.List.{flat_map}
use Rattle.std.proofs.lemmas.List.{append-nil, drop_all, drop_at, length-drop, take_at}
use borrow.Rule.Slice.PartMut.{put_mid}
use Rattle.byteorder.specs.Endian.{big_bytes}
use Rattle.format_spec.specs.Log.{pair_of}
use Rattle.format_spec.specs.Log.{magic, checksum, pair_bytes, log_front, log_sums, log_header, frame_front, frame_sums, frame_header}

-- the front of an array is written, and then the rest of it
put_mid-halves : (front back old : List ℕ) (n k : ℕ) → length front ≡ n → length back ≡ k → length old ≡ n + k
    → put_mid n k (front ++ drop n old) back ≡ front ++ back
put_mid-halves front back old n k front_long back_long old_long =
    let rest : drop n (front ++ drop n old) ≡ drop n old = drop_at front (drop n old) n front_long in
    let none : drop k (drop n old) ≡ [] = drop_all k (drop n old) (omega (arith, length-drop n old)) in
    ap₂ (λ (a b : List ℕ). a ++ (back ++ b)) (take_at front (drop n old) n front_long) (ap (drop k) rest ∙ none)
    ∙ ap (λ (b : List ℕ). front ++ b) (append-nil back)

-- two words in a row
flat_map-pair : (sums : List ℕ) → length sums ≡ 2 → flat_map (big_bytes 4) sums ≡ pair_bytes (pair_of sums)
flat_map-pair [] two = absurd (omega arith)
flat_map-pair (a ∷ []) two = absurd (omega arith)
flat_map-pair (a ∷ b ∷ []) two = refl
flat_map-pair (a ∷ b ∷ c ∷ more) two = absurd (omega arith)

-- the writes of a log's header
pub log_header-written : (big : Bool) (page_size sequence number : ℕ) (salt old first sums second : List ℕ)
    → number ≡ magic big → length old ≡ 32 → length sums ≡ 2
    → first ≡ flat_map (big_bytes 4) (number ∷ 3007000 ∷ page_size ∷ sequence ∷ slice_index salt 0 ∷ slice_index salt 1 ∷ [])
    → pair_of sums ≡ checksum big (0, 0) (take 24 (first ++ drop 24 old))
    → second ≡ flat_map (big_bytes 4) sums
    → (put_mid 24 8 (first ++ drop 24 old) second ≡ log_header big page_size sequence (pair_of salt)) × (pair_of sums ≡ log_sums big page_size sequence (pair_of salt))
unfolding log_header
log_header-written big page_size sequence number salt old first sums second number_is old_long sums_long first_is sums_is second_is =
    let front : first ≡ log_front big page_size sequence (pair_of salt) =
    first_is ∙ ap (λ (n : ℕ). flat_map (big_bytes 4) (n ∷ 3007000 ∷ page_size ∷ sequence ∷ slice_index salt 0 ∷ slice_index salt 1 ∷ [])) number_is in
    let first_long : length first ≡ 24 = ap length first_is in
    let second_is : second ≡ pair_bytes (pair_of sums) = second_is ∙ flat_map-pair sums sums_long in
    let second_long : length second ≡ 8 = ap length second_is in
    let summed : pair_of sums ≡ log_sums big page_size sequence (pair_of salt) =
    sums_is ∙ ap (checksum big (0, 0)) (take_at first (drop 24 old) 24 first_long ∙ front) in (
      put_mid-halves first second old 24 8 first_long second_long old_long ∙ ap₂ (λ (a b : List ℕ). a ++ b) front (second_is ∙ ap pair_bytes summed),
      summed,
    )

-- the writes of a frame's header
pub frame_header-written : (big : Bool) (number commit : ℕ) (salt before page old first middle sums second : List ℕ)
    → length old ≡ 24
    → first ≡ flat_map (big_bytes 4) (number ∷ commit ∷ [])
    → pair_of middle ≡ checksum big (pair_of before) (take 8 (first ++ drop 8 old))
    → pair_of sums ≡ checksum big (pair_of middle) page
    → second ≡ flat_map (big_bytes 4) (slice_index salt 0 ∷ slice_index salt 1 ∷ slice_index sums 0 ∷ slice_index sums 1 ∷ [])
    → (put_mid 8 16 (first ++ drop 8 old) second ≡ frame_header big (pair_of salt) (pair_of before) number commit page)
    × (pair_of sums ≡ frame_sums big (pair_of before) number commit page)
unfolding frame_header
frame_header-written big number commit salt before page old first middle sums second old_long first_is middle_is sums_is second_is =
    let front : first ≡ frame_front number commit = first_is in
    let first_long : length first ≡ 8 = ap length first_is in
    let second_is : second ≡ pair_bytes (pair_of salt) ++ pair_bytes (pair_of sums) = second_is in
    let second_long : length second ≡ 16 = ap length second_is in
    let summed : pair_of sums ≡ frame_sums big (pair_of before) number commit page =
    sums_is ∙ ap (λ (s : ℕ × ℕ). checksum big s page) (middle_is ∙ ap (checksum big (pair_of before)) (take_at first (drop 8 old) 8 first_long ∙ front)) in (
      put_mid-halves first second old 8 16 first_long second_long old_long
          ∙ ap₂ (λ (a b : List ℕ). a ++ b) front (second_is ∙ ap (λ (s : ℕ × ℕ). pair_bytes (pair_of salt) ++ pair_bytes s) summed),
      summed,
    )
