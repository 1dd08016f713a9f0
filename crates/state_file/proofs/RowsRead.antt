-- The rows of a page, one after the other.
use Rattle.std.proofs.Common.{◌≡◌, ℕ, suc, ◌+◌, ◌-◌, ◌*◌, ◌<◌, ◌≤◌, ◌^◌, List, [], ◌∷◌, ◌++◌, length, take, drop, replicate, refl, sym, ap, ap₂, ◌∙◌, subst, arith, append_assoc, length-append, length-drop}
use Rattle.std.proofs.lemmas.List.{append-nil, length-replicate, length-take-le, take-take, take_at, drop_at, take_all, drop-drop, drop-take, take-append-drop}
use Rattle.std.proofs.lemmas.List.Sums.{sum_by-cons}
use Rattle.std.specs.List.{AllByRecursion, flat_map, sum_by}
use Rattle.byteorder.specs.Endian.{big_bytes, big_number}
use Rattle.byteorder.specs.Numbers.{big_number-reads_back, length-bytes_high_first}
use Rattle.byte_fields.specs.Numbers.{number_at}
use Rattle.rbu_value.specs.declared.value.Value.{Value}
use Rattle.format_spec.specs.Page.{packed_header, packed_leaf, places_below, stacked}
use Rattle.record_codec.specs.Records.{IsStored}
use Rattle.state_file.specs.Reading.{HasRows}
use Rattle.state_file.specs.StateFile.{row_cell, rows_from, next_key, leaf_room}
use Rattle.state_file.proofs.RowCells.{next_key-most}
use Rattle.state_file.proofs.Filling.{content}

-- Of all values so many are read, and the rest is not: its rows lie below a place, and their places stand in the array.
pub record IsLeft (page : List ℕ) (all read : List Value) (index end : ℕ) : Type 0 where
  pub key : ℕ
  pub rest : List Value
  pub front : List ℕ
  pub tail : List ℕ
  pub all_is : read ++ rest ≡ all
  pub stored : AllByRecursion IsStored rest
  pub array : drop (8 + 2 * index) page ≡ flat_map (big_bytes 2) (places_below end (rows_from key rest)) ++ tail
  pub stack : take end page ≡ front ++ stacked (rows_from key rest)
  pub fits : content (rows_from key rest) ≤ end
  pub most : end ≤ 4096
  pub within : end ≤ length page
  pub small : key + 2 * length rest < 100
  pub count : index + length rest ≡ length all

pub length-stacked : (cells : List (List ℕ)) → length (stacked cells) ≡ content cells
length-stacked [] = refl
length-stacked (cell ∷ cells) = let rest = length-stacked cells in omega (arith, length-append (stacked cells) cell, sum_by-cons length cell cells)

pub length-array : (size : ℕ) (cells : List (List ℕ)) → length (flat_map (big_bytes 2) (places_below size cells)) ≡ 2 * length cells
length-array size [] = refl
length-array size (cell ∷ cells) = let rest = length-array (size - length cell) cells in omega arith

length-rows : (key : ℕ) (values : List Value) → length (rows_from key values) ≡ length values
length-rows key [] = refl
length-rows key (value ∷ values) = ap suc (length-rows (next_key key) values)

-- what stands behind the header of a packed leaf
behind_header : ℕ → List (List ℕ) → List ℕ
behind_header size cells = flat_map (big_bytes 2) (places_below size cells) ++ (replicate (size - (8 + 2 * length cells + content cells)) 0 ++ stacked cells)

packed_leaf-parts : (size : ℕ) (cells : List (List ℕ)) → packed_leaf size cells ≡ packed_header size cells ++ behind_header size cells
unfolding packed_leaf behind_header
packed_leaf-parts size cells = refl

-- a packed leaf is as long as it is said to be
pub packed_leaf-length : (size : ℕ) (cells : List (List ℕ)) → leaf_room cells ≤ size → length (packed_leaf size cells) ≡ size
unfolding behind_header
packed_leaf-length size cells room =
    let array : List ℕ = flat_map (big_bytes 2) (places_below size cells) in
    let zeros : List ℕ = replicate (size - (8 + 2 * length cells + content cells)) 0 in
    omega (
      arith,
      ap length (packed_leaf-parts size cells),
      length-append (packed_header size cells) (array ++ (zeros ++ stacked cells)),
      length-append array (zeros ++ stacked cells),
      length-append zeros (stacked cells),
      length-array size cells,
      length-stacked cells,
      length-replicate {A = ℕ} (size - (8 + 2 * length cells + content cells)) 0,
    )

packed_leaf-count : (size : ℕ) (cells : List (List ℕ)) → length cells < 65536 → number_at 3 2 (packed_leaf size cells) ≡ length cells
unfolding packed_leaf
packed_leaf-count size cells h =
    big_number-reads_back 2 (length cells) ((big_bytes 2 (size - content cells) ++ 0 ∷ []) ++ (flat_map (big_bytes 2) (places_below size cells) ++ (replicate (size - (8 + 2 * length cells + content cells)) 0 ++ stacked cells))) (omega arith)

-- how many rows the page has
pub rows-count : (page : List ℕ) (values : List Value) → HasRows page values → number_at 3 2 page ≡ length values
rows-count page values has =
    let many = length-rows 1 values in
    ap (number_at 3 2) has.is ∙ packed_leaf-count 4096 (rows_from 1 values) (omega (arith, many, has.few)) ∙ many

-- nothing is read
pub IsLeft-all : (page : List ℕ) (values : List Value) → HasRows page values → IsLeft page values [] 0 4096
unfolding behind_header
IsLeft-all page values has =
    let cells = rows_from 1 values in
    let array : List ℕ = flat_map (big_bytes 2) (places_below 4096 cells) in
    let zeros : List ℕ = replicate (4096 - (8 + 2 * length cells + content cells)) 0 in
    let header : List ℕ = packed_header 4096 cells in
    let whole : page ≡ header ++ (array ++ (zeros ++ stacked cells)) = has.is ∙ packed_leaf-parts 4096 cells in
    let regrouped : page ≡ (header ++ (array ++ zeros)) ++ stacked cells =
    whole ∙ ap (λ (x : List ℕ). header ++ x) (sym (append_assoc array zeros (stacked cells))) ∙ sym (append_assoc header (array ++ zeros) (stacked cells)) in
    let long : length page ≡ 4096 =
    omega (arith, ap length regrouped, length-append (header ++ (array ++ zeros)) (stacked cells), length-append header (array ++ zeros), length-append array zeros, length-array 4096 cells, length-stacked cells, length-replicate {A = ℕ} (4096 - (8 + 2 * length cells + content cells)) 0, has.room) in
    record {
      key = 1;
      rest = values;
      front = header ++ (array ++ zeros);
      tail = zeros ++ stacked cells;
      all_is = refl;
      stored = has.stored;
      array = ap (drop 8) whole ∙ drop_at header (array ++ (zeros ++ stacked cells)) 8 refl;
      stack = take_all 4096 page (omega (arith, long)) ∙ regrouped;
      fits = omega (arith, has.room);
      most = omega arith;
      within = omega (arith, long);
      small = omega (arith, has.few);
      count = omega arith;
    }

-- the next value, the row that it stands in, and what is left behind it
pub record IsNext (page : List ℕ) (all read : List Value) (index end start : ℕ) : Type 0 where
  pub key : ℕ
  pub value : Value
  pub small : key < 2 ^ 32
  pub stored : IsStored value
  pub ordered : start ≤ end
  pub row : take (end - start) (drop start page) ≡ row_cell key value
  pub short : length (row_cell key value) < 2 ^ 32
  pub behind : IsLeft page all (read ++ value ∷ []) (index + 1) start

pub IsLeft-next : (page : List ℕ) (all read : List Value) (index end start : ℕ) → IsLeft page all read index end → index < length all → start ≡ number_at (8 + 2 * index) 2 page
    → IsNext page all read index end start
IsLeft-next page all read index end start left within is = at left.rest refl
  where
    at : (rest : List Value) → left.rest ≡ rest → IsNext page all read index end start
    at [] e = absurd (omega (arith, left.count, ap length e))
    at (value ∷ values) e =
        let cell : List ℕ = row_cell left.key value in
        let rows = rows_from (next_key left.key) values in
        let fits : length cell + content rows ≤ end = omega (arith, left.fits, ap (λ (vs : List Value). content (rows_from left.key vs)) e, sum_by-cons length cell rows) in
        let place : ℕ = end - length cell in
        let array : drop (8 + 2 * index) page ≡ big_bytes 2 place ++ (flat_map (big_bytes 2) (places_below place rows) ++ left.tail) =
        left.array ∙ ap (λ (vs : List Value). flat_map (big_bytes 2) (places_below end (rows_from left.key vs)) ++ left.tail) e ∙ append_assoc (big_bytes 2 place) (flat_map (big_bytes 2) (places_below place rows)) left.tail in
        let here : start ≡ place = is ∙ ap (big_number 2) array ∙ big_number-reads_back 2 place (flat_map (big_bytes 2) (places_below place rows) ++ left.tail) (omega (arith, left.most)) in
        let stack : take end page ≡ (left.front ++ stacked rows) ++ cell =
        left.stack ∙ ap (λ (vs : List Value). left.front ++ stacked (rows_from left.key vs)) e ∙ sym (append_assoc left.front (stacked rows) cell) in
        let reach : length (take end page) ≡ end = length-take-le end page left.within in
        let before : length (left.front ++ stacked rows) ≡ start = omega (arith, ap length stack, length-append (left.front ++ stacked rows) cell) in
        let upto : end ≡ start + (end - start) = omega arith in
        let row : take (end - start) (drop start page) ≡ cell =
        sym (drop-take start (end - start) page) ∙ ap (λ (n : ℕ). drop start (take n page)) (sym upto) ∙ ap (drop start) stack ∙ drop_at (left.front ++ stacked rows) cell start before in
        let below : take start page ≡ left.front ++ stacked rows =
        sym (take-take start end page (omega arith)) ∙ ap (take start) stack ∙ take_at (left.front ++ stacked rows) cell start before in
        let more : drop (8 + 2 * (index + 1)) page ≡ flat_map (big_bytes 2) (places_below place rows) ++ left.tail =
        ap (λ (n : ℕ). drop n page) (omega arith) ∙ sym (drop-drop 2 (8 + 2 * index) page) ∙ ap (drop 2) array ∙ drop_at (big_bytes 2 place) (flat_map (big_bytes 2) (places_below place rows) ++ left.tail) 2 refl in
        record {
          key = left.key;
          value = value;
          small = omega (arith, left.small);
          stored = (subst (AllByRecursion IsStored) e left.stored).0;
          ordered = omega arith;
          row = row;
          short = omega (arith, fits, left.most);
          behind = record {
            key = next_key left.key;
            rest = values;
            front = left.front;
            tail = left.tail;
            all_is = append_assoc read (value ∷ []) values ∙ ap (λ (vs : List Value). read ++ vs) (sym e) ∙ left.all_is;
            stored = (subst (AllByRecursion IsStored) e left.stored).1;
            array = more ∙ ap (λ (n : ℕ). flat_map (big_bytes 2) (places_below n rows) ++ left.tail) (sym here);
            stack = below;
            fits = omega (arith, fits);
            most = omega (arith, left.most);
            within = omega (arith, left.within);
            small = omega (arith, left.small, next_key-most left.key, ap length e);
            count = omega (arith, left.count, ap length e);
          };
        }

-- all is read
pub IsLeft-none : (page : List ℕ) (all read : List Value) (index end : ℕ) → IsLeft page all read index end → length all ≤ index → read ≡ all
IsLeft-none page all read index end left done = at left.rest refl
  where
    at : (rest : List Value) → left.rest ≡ rest → read ≡ all
    at [] e = sym (append-nil read) ∙ ap (λ (vs : List Value). read ++ vs) (sym e) ∙ left.all_is
    at (value ∷ values) e = absurd (omega (arith, left.count, ap length e))
