-- A packed leaf read as a page: its places, and the cells that stand there.
use Rattle.std.proofs.Common.{◌≡◌, ℕ, zero, suc, ◌+◌, ◌-◌, ◌*◌, ◌<◌, ◌≤◌, List, [], ◌∷◌, ◌++◌, length, take, drop, replicate, get_or, refl, sym, ap, ◌∙◌, arith, inr}
use Rattle.std.proofs.lemmas.List.{append_assoc, append-nil, length-append, length-replicate, take_at, drop_at, drop-drop, take-take, take-append-drop, drop_more, take_more}
use Rattle.std.proofs.lemmas.List.Sums.{sum_by-append, sum_by-cons, sum_by-take-le, sum_by_push}
use Rattle.std.specs.List.{flat_map}
use Rattle.byteorder.specs.Endian.{big_bytes, big_number}
use Rattle.byteorder.specs.Numbers.{big_number-reads_back}
use Rattle.format_spec.specs.declared.PageKind.TheVariants.{TableLeaf}
use Rattle.format_spec.specs.declared.CellView.{CellView}
use Rattle.format_spec.specs.Cell.{IsCell}
use Rattle.format_spec.specs.Page.{IsPage, packed_leaf, places_below, stacked}
use Rattle.small_update.proofs.Leaf.{content, length-places}

-- two bytes read back
two_bytes-read_back : (x : ℕ) (rest : List ℕ) → x < 65536 → big_number 2 (big_bytes 2 x ++ rest) ≡ x
two_bytes-read_back x rest h = big_number-reads_back 2 x rest (omega arith)

-- the place at an index of the array
place-read : (places rest : List ℕ) (k : ℕ) → k < length places → get_or places k 0 < 65536 → big_number 2 (drop (2 * k) (flat_map (big_bytes 2) places ++ rest)) ≡ get_or places k 0
place-read [] rest k l h = absurd (omega arith)
place-read (x ∷ places) rest zero l h = two_bytes-read_back x (flat_map (big_bytes 2) places ++ rest) h
place-read (x ∷ places) rest (suc k) l h =
    let e : 2 * suc k ≡ suc (suc (2 * k)) = omega arith in
    rw e (place-read places rest k (omega arith) h)

-- which place that is
place-is : (size k : ℕ) (cells : List (List ℕ)) → k < length cells → get_or (places_below size cells) k 0 ≡ size - content (take (k + 1) cells)
place-is size k [] l = absurd (omega arith)
place-is size zero (cell ∷ cells) l = omega arith
place-is size (suc k) (cell ∷ cells) l =
    let below = place-is (size - length cell) k cells (omega arith) in
    let all = sum_by-cons length cell (take (k + 1) cells) in
    let next : suc k + 1 ≡ suc (k + 1) = omega arith in
    let rest : content (take (suc k + 1) (cell ∷ cells)) ≡ length cell + content (take (k + 1) cells) = ap (λ (n : ℕ). content (take n (cell ∷ cells))) next ∙ all in
    omega (arith, below, rest)

length-places_below : (size : ℕ) (cells : List (List ℕ)) → length (places_below size cells) ≡ length cells
length-places_below size [] = refl
length-places_below size (cell ∷ cells) = ap suc (length-places_below (size - length cell) cells)

length-stacked : (cells : List (List ℕ)) → length (stacked cells) ≡ content cells
length-stacked [] = refl
length-stacked (cell ∷ cells) = let rest = length-stacked cells in omega (arith, length-append (stacked cells) cell, sum_by-cons length cell cells)

stacked-append : (xs ys : List (List ℕ)) → stacked (xs ++ ys) ≡ stacked ys ++ stacked xs
stacked-append [] ys = sym (append-nil (stacked ys))
stacked-append (x ∷ xs) ys = ap (λ (s : List ℕ). s ++ x) (stacked-append xs ys) ∙ append_assoc (stacked ys) (stacked xs) x

-- the array of places and what lies behind it
abbrev behind_header : ℕ → List (List ℕ) → List ℕ
behind_header size cells =
    flat_map (big_bytes 2) (places_below size cells) ++ (replicate (size - (8 + 2 * length cells + content cells)) 0 ++ stacked cells)

packed_leaf-header : (size : ℕ) (cells : List (List ℕ)) → (header : List ℕ) × (length header ≡ 8) × (packed_leaf size cells ≡ header ++ behind_header size cells)
unfolding packed_leaf
packed_leaf-header size cells = (13 ∷ (big_bytes 2 0 ++ (big_bytes 2 (length cells) ++ (big_bytes 2 (size - content cells) ++ 0 ∷ []))), refl, refl)

packed_leaf-kind : (size : ℕ) (cells : List (List ℕ)) → get_or (packed_leaf size cells) 0 0 ≡ 13
unfolding packed_leaf
packed_leaf-kind size cells = refl

packed_leaf-count : (size : ℕ) (cells : List (List ℕ)) → length cells < 65536 → big_number 2 (drop 3 (packed_leaf size cells)) ≡ length cells
unfolding packed_leaf
packed_leaf-count size cells h = two_bytes-read_back (length cells) ((big_bytes 2 (size - content cells) ++ 0 ∷ []) ++ behind_header size cells) h

packed_leaf-cell_place : (size k : ℕ) (cells : List (List ℕ)) → size < 65536 → k < length cells → big_number 2 (drop (8 + 2 * k) (packed_leaf size cells)) ≡ size - content (take (k + 1) cells)
packed_leaf-cell_place size k cells short l =
    let parts = packed_leaf-header size cells in
    let rest = replicate (size - (8 + 2 * length cells + content cells)) 0 ++ stacked cells in
    let at = place-is size k cells l in
    let array : drop (8 + 2 * k) (packed_leaf size cells) ≡ drop (2 * k) (behind_header size cells) =
    sym (drop-drop (2 * k) 8 (packed_leaf size cells)) ∙ ap (λ (x : List ℕ). drop (2 * k) x) (ap (drop 8) parts.2 ∙ drop_at parts.0 (behind_header size cells) 8 parts.1) in
    ap (big_number 2) array ∙ (place-read (places_below size cells) rest k (omega (arith, length-places_below size cells)) (omega (arith, at)) ∙ at)

-- cells around the one at an index
cells-split : (cells : List (List ℕ)) (k : ℕ) → k < length cells → cells ≡ take k cells ++ (get_or cells k [] ∷ drop (k + 1) cells)
cells-split cells k l = sym (take-append-drop k cells) ∙ ap (λ (x : List (List ℕ)). take k cells ++ x) (drop_more cells k [] l)

content-split : (cells : List (List ℕ)) (k : ℕ) → k < length cells → content cells ≡ content (take (k + 1) cells) + content (drop (k + 1) cells)
content-split cells k l = ap content (sym (take-append-drop (k + 1) cells)) ∙ sum_by-append length (take (k + 1) cells) (drop (k + 1) cells)

content-next : (cells : List (List ℕ)) (k : ℕ) → k < length cells → content (take (k + 1) cells) ≡ content (take k cells) + length (get_or cells k [])
content-next cells k l = ap content (take_more cells k [] l) ∙ sum_by_push length (take k cells) (get_or cells k [])

content-rises : (cells : List (List ℕ)) (j k : ℕ) → j ≤ k → content (take j cells) ≤ content (take k cells)
content-rises cells j k h = let le = sum_by-take-le length (take k cells) j in let same = ap content (take-take j k cells h) in omega arith

-- the cell at an index stands behind what lies before its place
cell-stands : (size k : ℕ) (cells : List (List ℕ)) → 8 + 2 * length cells + content cells ≤ size → k < length cells
    → take (length (get_or cells k [])) (drop (size - content (take (k + 1) cells)) (packed_leaf size cells)) ≡ get_or cells k []
cell-stands size k cells room l =
    let parts = packed_leaf-header size cells in
    let array = flat_map (big_bytes 2) (places_below size cells) in
    let zeros = replicate (size - (8 + 2 * length cells + content cells)) 0 in
    let cell = get_or cells k [] in
    let below = stacked (drop (k + 1) cells) in
    let above = stacked (take k cells) in
    let stack : stacked cells ≡ below ++ (cell ++ above) =
    ap stacked (cells-split cells k l) ∙ (stacked-append (take k cells) (cell ∷ drop (k + 1) cells) ∙ append_assoc below cell above) in
    let front = parts.0 ++ (array ++ (zeros ++ below)) in
    let page : packed_leaf size cells ≡ front ++ (cell ++ above) =
    parts.2
    ∙ (ap (λ (x : List ℕ). parts.0 ++ (array ++ (zeros ++ x))) stack
    ∙ sym (append_assoc parts.0 (array ++ (zeros ++ below)) (cell ++ above)
    ∙ ap (λ (x : List ℕ). parts.0 ++ x) (append_assoc array (zeros ++ below) (cell ++ above) ∙ ap (λ (x : List ℕ). array ++ x) (append_assoc zeros below (cell ++ above))))) in
    let at : length front ≡ size - content (take (k + 1) cells) =
    omega (
      arith,
      parts.1,
      length-append parts.0 (array ++ (zeros ++ below)),
      length-append array (zeros ++ below),
      length-append zeros below,
      length-places size cells,
      length-replicate {A = ℕ} (size - (8 + 2 * length cells + content cells)) 0,
      length-stacked (drop (k + 1) cells),
      content-split cells k l,
    ) in
    ap (λ (x : List ℕ). take (length cell) (drop (size - content (take (k + 1) cells)) x)) page
    ∙ (ap (take (length cell)) (drop_at front (cell ++ above) (size - content (take (k + 1) cells)) at) ∙ take_at cell above (length cell) refl)

-- a packed leaf is as long as it is said to be
pub length-packed_leaf : (size : ℕ) (cells : List (List ℕ)) → 8 + 2 * length cells + content cells ≤ size → length (packed_leaf size cells) ≡ size
length-packed_leaf size cells room =
    let parts = packed_leaf-header size cells in
    let array = flat_map (big_bytes 2) (places_below size cells) in
    let zeros : List ℕ = replicate (size - (8 + 2 * length cells + content cells)) 0 in
    omega (
      arith,
      ap length parts.2,
      parts.1,
      length-append parts.0 (behind_header size cells),
      length-append array (zeros ++ stacked cells),
      length-append zeros (stacked cells),
      length-places size cells,
      length-replicate {A = ℕ} (size - (8 + 2 * length cells + content cells)) 0,
      length-stacked cells,
    )

-- the page of cells for which there is room
pub packed_leaf-page : (size : ℕ) (cells : List (List ℕ)) → size < 65536 → 8 + 2 * length cells + content cells ≤ size
    → ((k : ℕ) → k < length cells → ((view : CellView) × IsCell TableLeaf size (get_or cells k []) view) × (4 ≤ length (get_or cells k [])))
    → IsPage (packed_leaf size cells) 2 size TableLeaf cells 0
packed_leaf-page size cells short room leaf = record {
  kind_is = packed_leaf-kind size cells;
  count = packed_leaf-count size cells (omega arith);
  each = λ k l.
      let place = packed_leaf-cell_place size k cells short l in
      let split = content-split cells k l in
      let next = content-next cells k l in
      let long = (leaf k l).1 in
      record {
        view = (leaf k l).0.0;
        is_cell = (leaf k l).0.1;
        stands = ap (λ (n : ℕ). take (length (get_or cells k [])) (drop n (packed_leaf size cells))) place ∙ cell-stands size k cells room l;
        behind_array = omega arith;
        inside = omega arith;
      };
  apart = λ j k h l.
      let place = packed_leaf-cell_place size k cells short l in
      let other = packed_leaf-cell_place size j cells short (omega arith) in
      let next = content-next cells k l in
      let rises = content-rises cells (j + 1) k (omega arith) in
      let split = content-split cells k l in
      let long = (leaf k l).1 in
      inr (omega arith);
  right_child = refl;
}
