-- The first page, from its parts.
use Rattle.std.proofs.Common.{◌≡◌, ℕ, ◌+◌, ◌-◌, ◌*◌, ◌≤◌, List, [], ◌∷◌, ◌++◌, length, take, drop, replicate, refl, sym, ap, ap₂, ◌∙◌, arith, length-append}
use Rattle.std.proofs.lemmas.List.{append-nil, length-replicate, take-replicate, drop-replicate, drop-append-le, drop_all}
use Rattle.std.specs.List.{flat_map, sum_by}
use Rattle.byteorder.specs.Endian.{big_bytes}
use Rattle.format_spec.specs.Page.{packed_header, places_below}
use Rattle.state_file.specs.Placing.{IsPlaced}
use Rattle.state_file.specs.StateFile.{packed_behind}

-- zeros with a cell at their end and a front written over them
between_zeros : (size start : ℕ) (page page' front cell : List ℕ) → page ≡ replicate size 0 → IsPlaced page page' size start cell → length front ≤ start
    → front ++ drop (length front) page' ≡ front ++ (replicate (start - length front) 0 ++ cell)
between_zeros size start page page' front cell zeros put room =
    let none : drop size page ≡ [] = ap (drop size) zeros ∙ drop_all size (replicate size 0) (omega (arith, length-replicate {A = ℕ} size 0)) in
    let before : take start page ≡ replicate start 0 = ap (take start) zeros ∙ take-replicate start size 0 (omega (arith, put.at)) in
    let now : page' ≡ replicate start 0 ++ cell = put.written ∙ ap₂ (λ (a b : List ℕ). a ++ (cell ++ b)) before none ∙ ap (λ (b : List ℕ). replicate start 0 ++ b) (append-nil cell) in
    let behind : drop (length front) (replicate start 0 ++ cell) ≡ replicate (start - length front) 0 ++ cell =
    drop-append-le (length front) (replicate start 0) cell (omega (arith, length-replicate {A = ℕ} start 0)) ∙ ap (λ (b : List ℕ). b ++ cell) (drop-replicate (length front) start 0) in
    ap (λ (b : List ℕ). front ++ b) (ap (drop (length front)) now ∙ behind)

-- the page of one cell behind a header
pub packed_behind-one : (size start : ℕ) (page page' header front cell : List ℕ) → page ≡ replicate size 0 → IsPlaced page page' size start cell
    → front ≡ header ++ (packed_header size (cell ∷ []) ++ flat_map (big_bytes 2) (places_below size (cell ∷ []))) → length front ≤ start
    → front ++ drop (length front) page' ≡ packed_behind header size (cell ∷ [])
unfolding packed_behind
packed_behind-one size start page page' header front cell zeros put is room =
    let long : length front ≡ length header + 8 + 2 * 1 =
    ap length is ∙ length-append header (packed_header size (cell ∷ []) ++ flat_map (big_bytes 2) (places_below size (cell ∷ []))) ∙ omega arith in
    let gap : start - length front ≡ size - (length header + 8 + 2 * 1 + sum_by length (cell ∷ [])) = omega (arith, put.at, long) in
    between_zeros size start page page' front cell zeros put room
    ∙ ap₂ (λ (f : List ℕ) (n : ℕ). f ++ (replicate n 0 ++ cell)) is gap
