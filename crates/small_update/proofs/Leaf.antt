-- A table leaf while its cells are written, and the page that they make.
use Rattle.std.proofs.Common.{get_or, subst, ◌≡◌, ℕ, ◌+◌, ◌-◌, ◌*◌, ◌<◌, ◌≤◌, List, [], ◌∷◌, ◌++◌, length, take, drop, replicate, map, refl, sym, ap, ◌∙◌, arith}
use Rattle.std.proofs.lemmas.List.{map_more, length-map, append_assoc, append-nil, length-append, length-replicate, length-drop, length-take, length-take-le, drop_all, take-append-drop, take_at, drop_at, drop-drop, drop-append-le, take-append-le, take-replicate, drop-replicate, replicate-append-replicate}
use Rattle.std.proofs.lemmas.List.Concat.{flat_map-append}
use Rattle.std.specs.List.{between, flat_map, sum_by}
use borrow.Rule.Slice.PartMut.{put_mid, mid_of}
use Rattle.std.proofs.lemmas.List.Sums.{sum_by_push, sum_by-cons, sum_by-take-le}
use Rattle.byteorder.specs.Endian.{big_bytes}
use Rattle.format_spec.specs.Page.{places_below, stacked, packed_leaf}
use Rattle.small_spec.specs.declared.TargetRow.{TargetRow}
use Rattle.small_spec.specs.Inserts.{page_room}

-- the cells' lengths
abbrev pub content : List (List ℕ) → ℕ
content cells = sum_by length cells

content-append : (xs : List (List ℕ)) (cell : List ℕ) → content (xs ++ cell ∷ []) ≡ content xs + length cell
content-append xs cell = sum_by_push length xs cell

pub places_below-push : (place : ℕ) (cells : List (List ℕ)) (cell : List ℕ)
    → places_below place (cells ++ cell ∷ []) ≡ places_below place cells ++ (place - content cells - length cell) ∷ []
places_below-push place [] cell = let e : place - 0 ≡ place = omega arith in rw e refl
places_below-push place (first ∷ cells) cell =
    let below = places_below-push (place - length first) cells cell in
    let all = sum_by-cons length first cells in
    let e : place - length first - content cells - length cell ≡ place - content (first ∷ cells) - length cell = omega arith in
    ap (λ (x : List ℕ). (place - length first) ∷ x) (below ∙ ap (λ (x : ℕ). places_below (place - length first) cells ++ x ∷ []) e)

pub stacked-push : (cells : List (List ℕ)) (cell : List ℕ) → stacked (cells ++ cell ∷ []) ≡ cell ++ stacked cells
stacked-push [] cell = sym (append-nil cell)
stacked-push (first ∷ cells) cell = ap (λ (x : List ℕ). x ++ first) (stacked-push cells cell) ∙ append_assoc cell (stacked cells) first

-- A page of `size` bytes while cells are written: the header's bytes, the places, unused bytes that are zero, and the cells from the place on.
pub record IsPacking (page : List ℕ) (size place : ℕ) (cells : List (List ℕ)) : Type 0 where
  pub header : List ℕ
  pub long : length header ≡ 8
  pub filled : place + content cells ≡ size
  pub room : 8 + 2 * length cells ≤ place
  pub whole : page ≡ header ++ (flat_map (big_bytes 2) (places_below size cells) ++ (replicate (place - (8 + 2 * length cells)) 0 ++ stacked cells))

-- a write over the part between a front and a back
pub put_mid-at : (front old back new : List ℕ) (at k : ℕ) → length front ≡ at → length old ≡ k → put_mid at k (front ++ (old ++ back)) new ≡ front ++ (new ++ back)
put_mid-at front old back new at k e l =
    let before = take_at front (old ++ back) at e in
    let after = ap (drop k) (drop_at front (old ++ back) at e) ∙ drop_at old back k l in
    let first : take at (front ++ (old ++ back)) ++ (new ++ drop k (drop at (front ++ (old ++ back)))) ≡ front ++ (new ++ drop k (drop at (front ++ (old ++ back)))) = ap (λ (x : List ℕ). x ++ (new ++ drop k (drop at (front ++ (old ++ back))))) before in
    first ∙ ap (λ (x : List ℕ). front ++ (new ++ x)) after

-- two writes, the second behind the first
pub put_mid-twice : (front two mid old back number cell : List ℕ) (entry place k : ℕ) → length front ≡ entry → length two ≡ 2 → length number ≡ 2 → entry + 2 + length mid ≡ place → length old ≡ k
    → put_mid place k (put_mid entry 2 (front ++ (two ++ (mid ++ (old ++ back)))) number) cell ≡ front ++ (number ++ (mid ++ (cell ++ back)))
put_mid-twice front two mid old back number cell entry place k e t n m l =
    let regroup = λ (x : List ℕ). append_assoc front (number ++ mid) x ∙ ap (λ (y : List ℕ). front ++ y) (append_assoc number mid x) in
    let at : length (front ++ (number ++ mid)) ≡ place = omega (arith, length-append front (number ++ mid), length-append number mid) in
    ap (λ (x : List ℕ). put_mid place k x cell) (put_mid-at front two (mid ++ (old ++ back)) number entry 2 e t ∙ sym (regroup (old ++ back)))
    ∙ (put_mid-at (front ++ (number ++ mid)) old back cell place k at l ∙ regroup (cell ++ back))

-- a page in five parts: before an entry, the entry, up to a place, what stands there, and the rest
pub page-in_parts : (page : List ℕ) (entry place k : ℕ) → entry + 2 ≤ place → place + k ≤ length page
    → page ≡ take entry page ++ (take 2 (drop entry page) ++ (between (entry + 2) place page ++ (take k (drop place page) ++ drop (place + k) page)))
page-in_parts page entry place k h l =
    let upto = place - (entry + 2) in
    let join : entry + 2 + upto ≡ place = omega arith in
    let first = sym (take-append-drop entry page) in
    let second = sym (take-append-drop 2 (drop entry page)) ∙ ap (λ (x : List ℕ). take 2 (drop entry page) ++ x) (drop-drop 2 entry page) in
    let third = sym (take-append-drop upto (drop (entry + 2) page)) ∙ ap (λ (x : List ℕ). between (entry + 2) place page ++ x) (drop-drop upto (entry + 2) page ∙ ap (λ (n : ℕ). drop n page) join) in
    let fourth = sym (take-append-drop k (drop place page)) ∙ ap (λ (x : List ℕ). take k (drop place page) ++ x) (drop-drop k place page) in
    first ∙ ap (λ (x : List ℕ). take entry page ++ x) (second ∙ ap (λ (x : List ℕ). take 2 (drop entry page) ++ x) (third ∙ ap (λ (x : List ℕ). between (entry + 2) place page ++ x) fourth))

-- what two such writes leave of a page
pub cell-written : (page number cell buf copy : List ℕ) (entry place n k : ℕ) → entry + 2 ≤ place → place + length cell ≤ length page → length number ≡ 2 → n ≡ 2 → k ≡ length cell
    → buf ≡ number ++ drop 2 (mid_of entry n page) → copy ≡ cell
    → put_mid place k (put_mid entry n page buf) copy ≡ take entry page ++ (number ++ (between (entry + 2) place page ++ (cell ++ drop (place + length cell) page)))
cell-written page number cell buf copy entry place n k h l two e f written copied =
    let size = length cell in
    let none : drop 2 (mid_of entry 2 page) ≡ [] = drop_all 2 (take 2 (drop entry page)) (omega (arith, length-take 2 (drop entry page))) in
    let same : buf ≡ number = written ∙ (ap (λ (m : ℕ). number ++ drop 2 (mid_of entry m page)) e ∙ (ap (λ (x : List ℕ). number ++ x) none ∙ append-nil number)) in
    let before : length (take entry page) ≡ entry = length-take-le entry page (omega arith) in
    let middle : entry + 2 + length (between (entry + 2) place page) ≡ place = omega (arith, length-take (place - (entry + 2)) (drop (entry + 2) page), length-drop (entry + 2) page) in
    let old : length (take size (drop place page)) ≡ size = length-take-le size (drop place page) (omega (arith, length-drop place page)) in
    let pair : length (take 2 (drop entry page)) ≡ 2 = length-take-le 2 (drop entry page) (omega (arith, length-drop entry page)) in
    let twice = put_mid-twice (take entry page) (take 2 (drop entry page)) (between (entry + 2) place page) (take size (drop place page)) (drop (place + size) page) number cell entry place size before pair two middle old in
    rw (e, f, same, copied) (ap (λ (x : List ℕ). put_mid place size (put_mid entry 2 x number) cell) (page-in_parts page entry place size h l) ∙ twice)

-- a cell that is written into the unused bytes between a front and a back
pub with_cell-between : (front back cell number : List ℕ) (gap entry place : ℕ) → length number ≡ 2 → length front ≡ entry → 2 + length cell ≤ gap → place + length cell ≡ entry + gap
    → take entry (front ++ (replicate gap 0 ++ back)) ++ (number ++ (between (entry + 2) place (front ++ (replicate gap 0 ++ back)) ++ (cell ++ drop (place + length cell) (front ++ (replicate gap 0 ++ back)))))
    ≡ front ++ (number ++ (replicate (gap - (2 + length cell)) 0 ++ (cell ++ back)))
with_cell-between front back cell number gap entry place two at room ends =
    let page = front ++ (replicate gap 0 ++ back) in
    let before : take entry page ≡ front = take_at front (replicate gap 0 ++ back) entry at in
    let unused : drop (entry + 2) page ≡ replicate (gap - 2) 0 ++ back =
    sym (drop-drop 2 entry page)
    ∙ (ap (drop 2) (drop_at front (replicate gap 0 ++ back) entry at)
    ∙ (drop-append-le 2 (replicate gap 0) back (omega (arith, length-replicate {A = ℕ} gap 0))
    ∙ ap (λ (x : List ℕ). x ++ back) (drop-replicate 2 gap 0))) in
    let n : place - (entry + 2) ≡ gap - (2 + length cell) = omega arith in
    let zeros : take (place - (entry + 2)) (replicate (gap - 2) 0 ++ back) ≡ replicate (place - (entry + 2)) 0 = take-append-le (place - (entry + 2)) (replicate (gap - 2) 0) back (omega (arith, length-replicate {A = ℕ} (gap - 2) 0)) ∙ take-replicate (place - (entry + 2)) (gap - 2) 0 (omega arith) in
    let middle : between (entry + 2) place page ≡ replicate (gap - (2 + length cell)) 0 = ap (take (place - (entry + 2))) unused ∙ (zeros ∙ ap (λ (x : ℕ). replicate x 0) n) in
    let rest : drop (place + length cell) page ≡ back =
    ap (λ (x : ℕ). drop x page) ends
    ∙ (sym (drop-drop gap entry page)
    ∙ (ap (drop gap) (drop_at front (replicate gap 0 ++ back) entry at)
    ∙ drop_at (replicate gap 0) back gap (length-replicate {A = ℕ} gap 0))) in
    simp (before, middle, rest)

-- how the room of rows falls to their places and their cells
pub page_room-is : (rows : List TargetRow) → page_room rows ≡ 8 + 2 * length rows + content (map (λ row. row.cell) rows)
page_room-is [] = refl
page_room-is (row ∷ rows) =
    let rest = page_room-is rows in
    let first = sum_by-cons (λ (x : TargetRow). length x.cell + 2) row rows in
    let cells = sum_by-cons (λ (x : List ℕ). length x) row.cell (map (λ x. x.cell) rows) in
    omega arith

pub page_room-take : (rows : List TargetRow) (k : ℕ) → page_room (take k rows) ≤ page_room rows
page_room-take rows k = let le = sum_by-take-le (λ (x : TargetRow). length x.cell + 2) rows k in omega arith

pub IsPacking-none : (page : List ℕ) (size : ℕ) → 8 ≤ size → page ≡ replicate size 0 → IsPacking page size size []
IsPacking-none page size h e = record {
  header = replicate 8 0;
  long = refl;
  filled = omega arith;
  room = omega arith;
  whole =
      let parts : size ≡ 8 + (size - 8) = omega arith in
      let zeros : replicate size 0 ≡ replicate 8 0 ++ replicate (size - 8) 0 = ap (λ (n : ℕ). replicate n 0) parts ∙ sym (replicate-append-replicate 8 (size - 8) 0) in
      e ∙ (zeros ∙ ap (λ (x : List ℕ). replicate 8 0 ++ x) (sym (append-nil (replicate (size - 8) 0))));
}

-- a cell's place takes two bytes
pub length-places : (size : ℕ) (cells : List (List ℕ)) → length (flat_map (big_bytes 2) (places_below size cells)) ≡ 2 * length cells
length-places size [] = refl
length-places size (cell ∷ cells) = let rest = length-places (size - length cell) cells in omega arith

-- one more cell
pub IsPacking-more : (page : List ℕ) (size place place' : ℕ) (cells : List (List ℕ)) (cell : List ℕ) → IsPacking page size place cells → place' + length cell ≡ place → 8 + 2 * (length cells + 1) ≤ place'
    → IsPacking (take (8 + 2 * length cells) page ++ (big_bytes 2 place' ++ (between (8 + 2 * length cells + 2) place' page ++ (cell ++ drop (place' + length cell) page)))) size place' (cells ++ cell ∷ [])
IsPacking-more page size place place' cells cell p e h = record {
  header = p.header;
  long = p.long;
  filled = omega (arith, content-append cells cell, p.filled);
  room = omega (arith, length-append cells (cell ∷ []));
  whole =
      let entry = 8 + 2 * length cells in
      let array = flat_map (big_bytes 2) (places_below size cells) in
      let number = big_bytes 2 place' in
      let gap = place - entry in
      let back = stacked cells in
      let before : page ≡ (p.header ++ array) ++ (replicate gap 0 ++ back) = p.whole ∙ sym (append_assoc p.header array (replicate gap 0 ++ back)) in
      let at : length (p.header ++ array) ≡ entry = omega (arith, p.long, length-append p.header array, length-places size cells) in
      let written = with_cell-between (p.header ++ array) back cell number gap entry place' refl at (omega (arith, p.room)) (omega (arith, p.room)) in
      let with_entry : flat_map (big_bytes 2) (places_below size (cells ++ cell ∷ [])) ≡ array ++ number =
      let is : size - content cells - length cell ≡ place' = omega (arith, p.filled) in
      ap (flat_map (big_bytes 2)) (places_below-push size cells cell)
      ∙ (flat_map-append (big_bytes 2) (places_below size cells) ((size - content cells - length cell) ∷ [])
      ∙ ap (λ (n : ℕ). array ++ (big_bytes 2 n ++ [])) is) in
      let unused : gap - (2 + length cell) ≡ place' - (8 + 2 * length (cells ++ cell ∷ [])) = omega (arith, length-append cells (cell ∷ [])) in
      let regroup = append_assoc p.header array (number ++ (replicate (gap - (2 + length cell)) 0 ++ (cell ++ back))) in
      let inner : array ++ (number ++ (replicate (gap - (2 + length cell)) 0 ++ (cell ++ back)))
      ≡ flat_map (big_bytes 2) (places_below size (cells ++ cell ∷ [])) ++ (replicate (place' - (8 + 2 * length (cells ++ cell ∷ []))) 0 ++ stacked (cells ++ cell ∷ [])) =
      sym (append_assoc array number (replicate (gap - (2 + length cell)) 0 ++ (cell ++ back)))
      ∙ (ap (λ (x : List ℕ). x ++ (replicate (gap - (2 + length cell)) 0 ++ (cell ++ back))) (sym with_entry)
      ∙ (ap (λ (n : ℕ). flat_map (big_bytes 2) (places_below size (cells ++ cell ∷ [])) ++ (replicate n 0 ++ (cell ++ back))) unused
      ∙ ap (λ (x : List ℕ). flat_map (big_bytes 2) (places_below size (cells ++ cell ∷ [])) ++ (replicate (place' - (8 + 2 * length (cells ++ cell ∷ []))) 0 ++ x)) (sym (stacked-push cells cell)))) in
      ap (λ (x : List ℕ). take entry x ++ (number ++ (between (entry + 2) place' x ++ (cell ++ drop (place' + length cell) x)))) before
      ∙ (written ∙ (regroup ∙ ap (λ (x : List ℕ). p.header ++ x) inner));
}

-- with its header the page is the packed leaf
pub IsPacking-packed_leaf : (page : List ℕ) (size place : ℕ) (cells : List (List ℕ)) → IsPacking page size place cells
    → (13 ∷ (big_bytes 2 0 ++ (big_bytes 2 (length cells) ++ (big_bytes 2 place ++ 0 ∷ [])))) ++ drop 8 page ≡ packed_leaf size cells
unfolding packed_leaf
IsPacking-packed_leaf page size place cells p =
    let rest = flat_map (big_bytes 2) (places_below size cells) ++ (replicate (place - (8 + 2 * length cells)) 0 ++ stacked cells) in
    let behind : drop 8 page ≡ rest = ap (drop 8) p.whole ∙ drop_at p.header rest 8 p.long in
    let at : place ≡ size - content cells = omega (arith, p.filled) in
    let unused : place - (8 + 2 * length cells) ≡ size - (8 + 2 * length cells + content cells) = omega (arith, p.filled) in
    ap (λ (x : List ℕ). (13 ∷ (big_bytes 2 0 ++ (big_bytes 2 (length cells) ++ (big_bytes 2 place ++ 0 ∷ [])))) ++ x) behind
    ∙ (ap (λ (n : ℕ). (13 ∷ (big_bytes 2 0 ++ (big_bytes 2 (length cells) ++ (big_bytes 2 n ++ 0 ∷ [])))) ++ rest) at
    ∙ ap (λ (n : ℕ). (13 ∷ (big_bytes 2 0 ++ (big_bytes 2 (length cells) ++ (big_bytes 2 (size - content cells) ++ 0 ∷ [])))) ++ (flat_map (big_bytes 2) (places_below size cells) ++ (replicate n 0 ++ stacked cells))) unused)

-- the room that is left for the next row's cell, and for its place
pub page_room-for_cell : (page : List ℕ) (size place k : ℕ) (rows : List TargetRow) (row : TargetRow) (cell : List ℕ) → IsPacking page size place (map (λ x. x.cell) (take k rows))
    → k < length rows → row ≡ get_or rows k row → cell ≡ row.cell → page_room rows ≤ size → 8 + 2 * (k + 1) + length cell ≤ place
page_room-for_cell page size place k rows row cell p below is same room =
    let cells = map_more (λ (x : TargetRow). x.cell) rows k row below in
    let more = content-append (map (λ (x : TargetRow). x.cell) (take k rows)) (get_or rows k row).cell in
    let all : content (map (λ (x : TargetRow). x.cell) (take (k + 1) rows)) ≡ content (map (λ (x : TargetRow). x.cell) (take k rows)) + length (get_or rows k row).cell = ap content cells ∙ more in
    let long : length (get_or rows k row).cell ≡ length cell = ap (λ (x : TargetRow). length x.cell) (sym is) ∙ ap (λ (x : List ℕ). length x) (sym same) in
    omega (arith, page_room-take rows (k + 1), page_room-is (take (k + 1) rows), length-take (k + 1) rows, p.filled)

-- the next row's cell is written
pub IsPacking-next_row : (page page' : List ℕ) (size place k : ℕ) (rows : List TargetRow) (row : TargetRow) (cell : List ℕ) → IsPacking page size place (map (λ x. x.cell) (take k rows))
    → k < length rows → row ≡ get_or rows k row → cell ≡ row.cell → page_room rows ≤ size
    → page' ≡ take (8 + 2 * k) page ++ (big_bytes 2 (place - length cell) ++ (between (8 + 2 * k + 2) (place - length cell) page ++ (cell ++ drop (place - length cell + length cell) page)))
    → IsPacking page' size (place - length cell) (map (λ x. x.cell) (take (k + 1) rows))
IsPacking-next_row page page' size place k rows row cell p below is same room written =
    let left = page_room-for_cell page size place k rows row cell p below is same room in
    let cells = map (λ (x : TargetRow). x.cell) (take k rows) in
    let count : length cells ≡ k = omega (arith, length-map (take k rows) (λ (x : TargetRow). x.cell), length-take k rows) in
    let next : map (λ (x : TargetRow). x.cell) (take (k + 1) rows) ≡ cells ++ cell ∷ [] =
    map_more (λ (x : TargetRow). x.cell) rows k row below ∙ ap (λ (x : List ℕ). cells ++ x ∷ []) (ap (λ (x : TargetRow). x.cell) (sym is) ∙ sym same) in
    let more = IsPacking-more page size place (place - length cell) cells cell p (omega arith) (omega arith) in
    let entry : take (8 + 2 * length cells) page ++ (big_bytes 2 (place - length cell) ++ (between (8 + 2 * length cells + 2) (place - length cell) page ++ (cell ++ drop (place - length cell + length cell) page))) ≡ page' =
    ap (λ (n : ℕ). take (8 + 2 * n) page ++ (big_bytes 2 (place - length cell) ++ (between (8 + 2 * n + 2) (place - length cell) page ++ (cell ++ drop (place - length cell + length cell) page)))) count ∙ sym written in
    subst (λ (x : List (List ℕ)). IsPacking page' size (place - length cell) x) (sym next) (subst (λ (x : List ℕ). IsPacking x size (place - length cell) (cells ++ cell ∷ [])) entry more)
