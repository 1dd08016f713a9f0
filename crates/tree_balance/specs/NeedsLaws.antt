-- The sizes of cells, and sums of what they need: crates above cite these facts in their proofs.
use Rattle.std.proofs.Common.{◌≡◌, ℕ, suc, ◌+◌, ◌*◌, ◌<◌, ◌≤◌, List, [], ◌∷◌, ◌++◌, length, take, drop, get_or, leb, cond, ap, ◌∙◌, arith, length-append, take-append-drop, inl, inr}
use Rattle.std.proofs.Math.Nat.{mul-le-mul_left}
use Rattle.std.proofs.lemmas.Bool.{cases_lt}
use Rattle.std.specs.List.{All}
use Rattle.std.proofs.lemmas.Bool.Decides.{nat_tests}
use Rattle.std.proofs.lemmas.List.{length-take-le, drop-drop, drop_all}
use Rattle.std.proofs.lemmas.List.Sums.{sum_by-cons, sum_by-take-drop, sum_by_more}
use Rattle.cell_codec.specs.VarintLaws.{spelling-one_to_nine}
use Rattle.cell_codec.specs.CellLaws.{min_local-below_max, local_size_room}
use Rattle.format_spec.specs.declared.PageKind.{PageKind}
use Rattle.format_spec.specs.declared.PageKind.TheVariants.{IndexInterior, TableInterior, IndexLeaf, TableLeaf}
use Rattle.format_spec.specs.declared.CellView.{CellView}
use Rattle.format_spec.specs.Cell.{IsIndexCell, max_local, min_local, fitted_local, local_size, overflow_size, child_size}
use Rattle.format_spec.specs.Page.{cell_room}
use Rattle.format_spec.specs.Sizes.{IsUsable}
use Rattle.page_spec.specs.Rooms.{IsOneCell, needs}
use Rattle.tree_balance.specs.Cuts.{page_room, risen}

overflow-most : (local payload : ℕ) → overflow_size local payload ≤ 4
overflow-most local payload = grind (arith, nat_tests)

local-most_of : (usable payload most : ℕ) → min_local usable ≤ most → cond (leb payload most) payload (cond (leb (fitted_local usable payload) most) (fitted_local usable payload) (min_local usable)) ≤ most
local-most_of usable payload most h = grind (arith, nat_tests)

local-most : (kind : PageKind) (usable payload : ℕ) → local_size kind usable payload ≤ max_local kind usable
local-most kind usable payload = local-most_of usable payload (max_local kind usable) (min_local-below_max kind usable)

index-room : (kind : PageKind) (usable : ℕ) (cell : List ℕ) (view : CellView) → child_size kind ≤ 4 → IsIndexCell kind usable cell view → length cell ≤ 17 + max_local kind usable
index-room kind usable cell view child is =
    let p = spelling-one_to_nine is.payload_bytes view.payload is.payload in
    let most = local-most kind usable view.payload in
    let over = overflow-most view.local view.payload in
    omega (
      arith,
      ap length is.whole,
      length-append is.child_bytes (is.payload_bytes ++ (is.local_bytes ++ is.overflow_bytes)),
      length-append is.payload_bytes (is.local_bytes ++ is.overflow_bytes),
      length-append is.local_bytes is.overflow_bytes,
      p.1,
      most,
      over,
      is.local,
      is.local_length,
      is.overflow_length,
      is.child_length,
      child,
    )

-- a page has room for each cell, and where one goes up for three of them
pub cell-need : (kind : PageKind) (usable : ℕ) (cell : List ℕ) → IsUsable usable → IsOneCell kind usable cell → (2 * risen kind + 1) * (cell_room cell + 2) ≤ page_room kind usable
cell-need TableLeaf usable cell sizes (view, is) =
    let p = spelling-one_to_nine is.payload_bytes view.payload is.payload in
    let q = spelling-one_to_nine is.rowid_bytes is.rowid_number is.rowid_varint in
    let over = overflow-most view.local view.payload in
    let room = local_size_room TableLeaf usable view.payload sizes.least in
    omega (
      arith,
      ap length is.whole,
      length-append is.payload_bytes (is.rowid_bytes ++ (is.local_bytes ++ is.overflow_bytes)),
      length-append is.rowid_bytes (is.local_bytes ++ is.overflow_bytes),
      length-append is.local_bytes is.overflow_bytes,
      p.1,
      q.1,
      room,
      over,
      is.local,
      is.local_length,
      is.overflow_length,
      sizes.least,
    )
cell-need TableInterior usable cell sizes (view, is) =
    let q = spelling-one_to_nine is.rowid_bytes is.rowid_number is.rowid_varint in
    omega (arith, ap length is.whole, length-append is.child_bytes is.rowid_bytes, q.1, is.child_length, sizes.least)
cell-need IndexLeaf usable cell sizes (view, is) = omega (arith, index-room IndexLeaf usable cell view (omega arith) is, sizes.least)
cell-need IndexInterior usable cell sizes (view, is) = omega (arith, index-room IndexInterior usable cell view (omega arith) is, sizes.least)

pub cells-need : (kind : PageKind) (usable : ℕ) (cells : List (List ℕ)) → IsUsable usable → All (IsOneCell kind usable) cells → All (λ cell. cell_room cell + 2 ≤ page_room kind usable) cells
cells-need kind usable cells sizes all k d low =
    let one = cell-need kind usable (get_or cells k d) sizes (all k d low) in
    omega (arith, risen-need kind (page_room kind usable) (cell_room (get_or cells k d) + 2) one)
  where
    risen-need : (kind : PageKind) (room need : ℕ) → (2 * risen kind + 1) * need ≤ room → need ≤ room
    risen-need TableLeaf room need h = omega arith
    risen-need TableInterior room need h = omega arith
    risen-need IndexLeaf room need h = omega arith
    risen-need IndexInterior room need h = omega arith

-- what one cell more needs
pub needs-more : (cells : List (List ℕ)) (i : ℕ) (x : List ℕ) → i < length cells → x ≡ get_or cells i x → needs (take (i + 1) cells) ≡ needs (take i cells) + (cell_room x + 2)
needs-more cells i x inside is =
    omega (arith, sum_by_more cell_room cells i x inside, ap cell_room is, length-take-le i cells (omega arith), length-take-le (i + 1) cells (omega arith))

pub needs-parts : (cells : List (List ℕ)) (i : ℕ) → needs (take i cells) + needs (drop i cells) ≡ needs cells
needs-parts cells i =
    omega (arith, sum_by-take-drop cell_room cells i, ap length (take-append-drop i cells), length-append (take i cells) (drop i cells))

-- cells that need more than a page has room for are as many as a cut needs
pub needs-below : (room : ℕ) (cells : List (List ℕ)) → All (λ cell. cell_room cell + 2 ≤ room) cells → needs cells ≤ length cells * room
needs-below room [] all = omega arith
needs-below room (x ∷ xs) all =
    omega (arith, needs-below room xs (λ k d low. all (suc k) d (omega arith)), all 0 x (omega arith), sum_by-cons cell_room x xs)

pub thrice-below : (room : ℕ) (cells : List (List ℕ)) → All (λ cell. 3 * (cell_room cell + 2) ≤ room) cells → 3 * needs cells ≤ length cells * room
thrice-below room [] all = omega arith
thrice-below room (x ∷ xs) all =
    omega (arith, thrice-below room xs (λ k d low. all (suc k) d (omega arith)), all 0 x (omega arith), sum_by-cons cell_room x xs)

two-cells : (n room total : ℕ) → total ≤ n * room → room < total → 1 < n
two-cells n room total most over =
    elim (cases_lt 1 n) [
      | inl more ↦ more
      | inr few ↦ absurd (omega (arith, mul-le-mul_left room few, most, over))
    ]

three-cells : (n room total : ℕ) → 3 * total ≤ n * room → room < total → 2 < n
three-cells n room total most over =
    elim (cases_lt 2 n) [
      | inl more ↦ more
      | inr few ↦ absurd (omega (arith, mul-le-mul_left room few, most, over))
    ]

pub enough_cells : (kind : PageKind) (usable : ℕ) (cells : List (List ℕ)) → IsUsable usable → All (IsOneCell kind usable) cells → page_room kind usable < needs cells → risen kind + 1 < length cells
enough_cells kind usable cells sizes all over = by kind all over
  where
    by : (kind : PageKind) → All (IsOneCell kind usable) cells → page_room kind usable < needs cells → risen kind + 1 < length cells
    by TableLeaf all over =
        two-cells (length cells) (page_room TableLeaf usable) (needs cells) (needs-below (page_room TableLeaf usable) cells (cells-need TableLeaf usable cells sizes all)) over
    by TableInterior all over =
        three-cells (length cells) (page_room TableInterior usable) (needs cells)
        (thrice-below (page_room TableInterior usable) cells (λ k d low. cell-need TableInterior usable (get_or cells k d) sizes (all k d low))) over
    by IndexLeaf all over =
        three-cells (length cells) (page_room IndexLeaf usable) (needs cells)
        (thrice-below (page_room IndexLeaf usable) cells (λ k d low. cell-need IndexLeaf usable (get_or cells k d) sizes (all k d low))) over
    by IndexInterior all over =
        three-cells (length cells) (page_room IndexInterior usable) (needs cells)
        (thrice-below (page_room IndexInterior usable) cells (λ k d low. cell-need IndexInterior usable (get_or cells k d) sizes (all k d low))) over

-- Of cells of which the front takes as much of a half as it may, what lies behind the next ones needs no more than a half.
pub half-behind : (cells : List (List ℕ)) (up r most limit : ℕ) → most + (up + 1) ≡ length cells → r ≤ most → (r < most → limit < needs (take (r + 1) cells)) → needs cells ≤ 2 * limit + 1
    → 2 * needs (drop (r + (up + 1)) cells) ≤ needs cells
half-behind cells up r most limit all within full half =
    elim (cases_lt r most) [
      | inl low ↦
          let over = full low in
          let rest = drop-drop up (r + 1) cells in
          let behind : needs (drop up (drop (r + 1) cells)) ≡ needs (drop (r + (up + 1)) cells) = ap needs (rest ∙ ap (λ (n : ℕ). drop n cells) (let e : r + 1 + up ≡ r + (up + 1) = omega arith in e)) in
          omega (arith, over, behind, needs-parts cells (r + 1), needs-parts (drop (r + 1) cells) up)
      | inr last ↦
          let none : drop (r + (up + 1)) cells ≡ [] = drop_all (r + (up + 1)) cells (omega arith) in
          omega (arith, ap needs none)
    ]
