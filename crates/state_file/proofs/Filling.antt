-- A table leaf while its rows are written from its end downwards.
use Rattle.std.proofs.Common.{◌≡◌, ℕ, ◌+◌, ◌-◌, ◌*◌, ◌<◌, ◌≤◌, List, [], ◌∷◌, ◌++◌, length, take, drop, replicate, refl, sym, ap, ap₂, ◌∙◌, subst, arith, append_assoc, length-append, length-drop}
use Rattle.std.proofs.lemmas.List.{append-nil, length-replicate, take_at, drop_at, drop-drop, drop-append-le, take-append-le, take-replicate, drop-replicate, replicate-append-replicate}
use Rattle.std.proofs.lemmas.List.Sums.{sum_by-cons}
use Rattle.std.specs.List.{flat_map, sum_by}
use Rattle.byteorder.specs.Endian.{big_bytes}
use Rattle.byteorder.specs.Numbers.{length-bytes_high_first}
use Rattle.byte_fields.specs.Numbers.{with_number_at}
use Rattle.format_spec.specs.Page.{packed_leaf, places_below, stacked}
use Rattle.state_file.specs.Placing.{IsPlaced}
use Rattle.state_file.specs.StateFile.{leaf_room}

-- the cells' lengths
abbrev pub content : List (List ℕ) → ℕ
content cells = sum_by length cells

-- Of all cells so many are written, and the rest is not: the header's bytes, the places so far, unused bytes that are zero, and the cells so far.
pub record IsFilling (all rest : List (List ℕ)) (size : ℕ) (page : List ℕ) (index place : ℕ) : Type 0 where
  pub header : List ℕ
  pub front : List ℕ
  pub back : List ℕ
  pub gap : ℕ
  pub long : length header ≡ 8
  pub places : length front ≡ 2 * index
  pub ends : 8 + 2 * index + gap ≡ place
  pub whole : page ≡ (header ++ front) ++ (replicate gap 0 ++ back)
  pub array : front ++ flat_map (big_bytes 2) (places_below place rest) ≡ flat_map (big_bytes 2) (places_below size all)
  pub stack : stacked rest ++ back ≡ stacked all
  pub count : index + length rest ≡ length all
  pub filled : place + content all ≡ size + content rest
  pub room : leaf_room all ≤ size

-- nothing is written
pub IsFilling-none : (all : List (List ℕ)) (size : ℕ) (page : List ℕ) → leaf_room all ≤ size → page ≡ replicate size 0 → IsFilling all all size page 0 size
IsFilling-none all size page room e = record {
  header = replicate 8 0;
  front = [];
  back = [];
  gap = size - 8;
  long = refl;
  places = refl;
  ends = omega arith;
  whole =
      let parts : size ≡ 8 + (size - 8) = omega arith in
      let zeros : replicate size 0 ≡ replicate 8 0 ++ replicate (size - 8) 0 = ap (λ (n : ℕ). replicate n 0) parts ∙ sym (replicate-append-replicate 8 (size - 8) 0) in
      e ∙ (zeros ∙ ap (λ (x : List ℕ). replicate 8 0 ++ x) (sym (append-nil (replicate (size - 8) 0))));
  array = refl;
  stack = append-nil (stacked all);
  count = omega arith;
  filled = refl;
  room = room;
}

-- the length of a page that is being filled
pub IsFilling-length : {all rest : List (List ℕ)} {size : ℕ} {page : List ℕ} {index place : ℕ} → IsFilling all rest size page index place → length page ≡ place + length (stacked all) - length (stacked rest)
IsFilling-length {all} {rest} {size} {page} {index} {place} f =
    omega (arith, ap length f.whole, length-append (f.header ++ f.front) (replicate f.gap 0 ++ f.back), length-append f.header f.front, length-append (replicate f.gap 0) f.back, length-replicate {A = ℕ} f.gap 0, f.long, f.places, f.ends, ap length f.stack, length-append (stacked rest) f.back)

-- the next cell has room, and so has its place
pub IsFilling-fits : {all rest : List (List ℕ)} {cell : List ℕ} {size : ℕ} {page : List ℕ} {index place : ℕ} → IsFilling all (cell ∷ rest) size page index place → 8 + 2 * (index + 1) + length cell ≤ place
IsFilling-fits {all} {rest} {cell} f = omega (arith, f.room, f.filled, f.count, sum_by-cons length cell rest)

-- one more cell and its place
pub IsFilling-next : {all rest : List (List ℕ)} {cell : List ℕ} {size : ℕ} {page page' : List ℕ} {index place start : ℕ} → IsFilling all (cell ∷ rest) size page index place
    → IsPlaced page page' place start cell → IsFilling all rest size (with_number_at (8 + 2 * index) 2 start page') (index + 1) start
IsFilling-next {all} {rest} {cell} {size} {page} {page'} {index} {place} {start} f put =
    let fits = IsFilling-fits f in
    let F : List ℕ = f.header ++ f.front in
    let at : length F ≡ 8 + 2 * index = omega (arith, length-append f.header f.front, f.long, f.places) in
    let left : ℕ = start - (8 + 2 * index) in
    let zeros : List ℕ = replicate f.gap 0 in
    let unused : length zeros ≡ f.gap = length-replicate {A = ℕ} f.gap 0 in
    let split : zeros ≡ replicate left 0 ++ replicate (length cell) 0 =
    ap (λ (n : ℕ). replicate n 0) (omega (arith, f.ends, put.at)) ∙ sym (replicate-append-replicate left (length cell) 0) in
    let before : take start page ≡ F ++ replicate left 0 =
    ap (take start) (f.whole ∙ ap (λ (z : List ℕ). F ++ (z ++ f.back)) split ∙ ap (λ (z : List ℕ). F ++ z) (append_assoc (replicate left 0) (replicate (length cell) 0) f.back) ∙ sym (append_assoc F (replicate left 0) (replicate (length cell) 0 ++ f.back)))
    ∙ take_at (F ++ replicate left 0) (replicate (length cell) 0 ++ f.back) start (omega (arith, length-append F (replicate left 0), length-replicate {A = ℕ} left 0, at, put.at)) in
    let behind : drop place page ≡ f.back =
    ap (drop place) (f.whole ∙ sym (append_assoc F zeros f.back)) ∙ drop_at (F ++ zeros) f.back place (omega (arith, length-append F zeros, unused, at, f.ends)) in
    let now : page' ≡ F ++ (replicate left 0 ++ (cell ++ f.back)) =
    put.written ∙ ap₂ (λ (a b : List ℕ). a ++ (cell ++ b)) before behind ∙ append_assoc F (replicate left 0) (cell ++ f.back) in
    let gap : ℕ = left - 2 in
    let two : replicate left 0 ≡ replicate 2 0 ++ replicate gap 0 =
    ap (λ (n : ℕ). replicate n 0) (omega (arith, fits, put.at)) ∙ sym (replicate-append-replicate 2 gap 0) in
    let array_front : take (8 + 2 * index) page' ≡ F = ap (take (8 + 2 * index)) now ∙ take_at F (replicate left 0 ++ (cell ++ f.back)) (8 + 2 * index) at in
    let array_back : drop (8 + 2 * index + 2) page' ≡ replicate gap 0 ++ (cell ++ f.back) =
    ap (drop (8 + 2 * index + 2)) (now ∙ ap (λ (z : List ℕ). F ++ (z ++ (cell ++ f.back))) two ∙ ap (λ (z : List ℕ). F ++ z) (append_assoc (replicate 2 0) (replicate gap 0) (cell ++ f.back)) ∙ sym (append_assoc F (replicate 2 0) (replicate gap 0 ++ (cell ++ f.back))))
    ∙ drop_at (F ++ replicate 2 0) (replicate gap 0 ++ (cell ++ f.back)) (8 + 2 * index + 2) (omega (arith, length-append F (replicate 2 0), length-replicate {A = ℕ} 2 0, at)) in
    let number : List ℕ = big_bytes 2 start in
    let place_is : place - length cell ≡ start = omega (arith, put.at) in
    record {
      header = f.header;
      front = f.front ++ number;
      back = cell ++ f.back;
      gap = gap;
      long = f.long;
      places = omega (arith, length-append f.front number, length-bytes_high_first 2 start, f.places);
      ends = omega (arith, fits, put.at);
      whole =
          ap₂ (λ (a b : List ℕ). a ++ (number ++ b)) array_front array_back
          ∙ sym (append_assoc F number (replicate gap 0 ++ (cell ++ f.back)))
          ∙ ap (λ (z : List ℕ). z ++ (replicate gap 0 ++ (cell ++ f.back))) (append_assoc f.header f.front number);
      array =
          append_assoc f.front number (flat_map (big_bytes 2) (places_below start rest))
          ∙ ap (λ (n : ℕ). f.front ++ (big_bytes 2 n ++ flat_map (big_bytes 2) (places_below n rest))) (sym place_is)
          ∙ f.array;
      stack = sym (append_assoc (stacked rest) cell f.back) ∙ f.stack;
      count = omega (arith, f.count);
      filled = omega (arith, f.filled, put.at, sum_by-cons length cell rest);
      room = f.room;
    }

-- with its header the page is the packed leaf
pub IsFilling-all : {all : List (List ℕ)} {size : ℕ} {page : List ℕ} {index place : ℕ} → IsFilling all [] size page index place
    → (13 ∷ (big_bytes 2 0 ++ (big_bytes 2 index ++ (big_bytes 2 place ++ 0 ∷ [])))) ++ drop 8 page ≡ packed_leaf size all
unfolding packed_leaf
IsFilling-all {all} {size} {page} {index} {place} f =
    let rest : List ℕ = f.front ++ (replicate f.gap 0 ++ f.back) in
    let behind : drop 8 page ≡ rest = ap (drop 8) (f.whole ∙ append_assoc f.header f.front (replicate f.gap 0 ++ f.back)) ∙ drop_at f.header rest 8 f.long in
    let places : f.front ≡ flat_map (big_bytes 2) (places_below size all) = sym (append-nil f.front) ∙ f.array in
    let count : index ≡ length all = omega (arith, f.count) in
    let at : place ≡ size - content all = omega (arith, f.filled) in
    let unused : f.gap ≡ size - (8 + 2 * length all + content all) = omega (arith, f.filled, f.ends, f.count) in
    let header : 13 ∷ (big_bytes 2 0 ++ (big_bytes 2 index ++ (big_bytes 2 place ++ 0 ∷ []))) ≡ 13 ∷ (big_bytes 2 0 ++ (big_bytes 2 (length all) ++ (big_bytes 2 (size - content all) ++ 0 ∷ []))) =
    ap₂ (λ (n p : ℕ). 13 ∷ (big_bytes 2 0 ++ (big_bytes 2 n ++ (big_bytes 2 p ++ 0 ∷ [])))) count at in
    ap₂ (λ (h b : List ℕ). h ++ b) header behind
    ∙ ap (λ (x : List ℕ). (13 ∷ (big_bytes 2 0 ++ (big_bytes 2 (length all) ++ (big_bytes 2 (size - content all) ++ 0 ∷ [])))) ++ x)
    (ap₂ (λ (a b : List ℕ). a ++ (replicate f.gap 0 ++ b)) places f.stack
    ∙ ap (λ (n : ℕ). flat_map (big_bytes 2) (places_below size all) ++ (replicate n 0 ++ stacked all)) unused)
