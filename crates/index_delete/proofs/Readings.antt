-- Pages that were read, and cells by their indices.
use Rattle.std.proofs.Common.{◌≡◌, ℕ, zero, suc, ◌+◌, ◌*◌, ◌<◌, ◌≤◌, Bool, true, false, List, [], ◌∷◌, ◌++◌, length, take, drop, slice_get, slice_index_or, inl, inr, refl, sym, ap, ◌∙◌, subst, arith, length-append}
use Rattle.std.proofs.Math.Path.{subst⁻¹}
use Rattle.std.proofs.Math.Nat.{mul-le-mul_left}
use Rattle.std.proofs.Math.Seq.{take-append_seam, drop-append_seam}
use Rattle.std.proofs.lemmas.List.{append-nil, drop_all, length-drop, length-take-le, take_all}
use Rattle.std.specs.List.{All, AllByRecursion}
use Rattle.cell_codec.specs.CellLaws.{cell-same}
use Rattle.format_spec.specs.declared.PageKind.{PageKind}
use Rattle.format_spec.specs.declared.PageKind.TheVariants.{IndexInterior, IndexLeaf}
use Rattle.format_spec.specs.Cell.{IsCell, child_size}
use Rattle.format_spec.specs.Page.{IsPage}
use Rattle.format_spec.specs.Sizes.{IsUsable}
use Rattle.page_spec.specs.Rooms.{IsOneCell, needs}
use Rattle.tree_balance.specs.Cuts.{page_room}
use Rattle.tree_balance.specs.NeedsLaws.{cell-need, thrice-below}
use Rattle.tree_spec.specs.Standing.{Sizes, Paged}
use Rattle.tree_spec.specs.WorldsLaws.{all-back, all-front}
use Rattle.put_spec.specs.ImagesLaws.{length-of, none-map, split-map}
use Rattle.put_spec.specs.Steps.{Spelled, bytes_in, views_in, HasCells, child_page}
use Rattle.index_delete_spec.specs.Steps.{IsOfIndex}
use Rattle.tree_walk.specs.declared.page.TreePage.{TreePage}
use Rattle.tree_walk.specs.Pages.{IsDecoded}
use Rattle.tree_walk.specs.Places.{child_or}
use Rattle.tree_level.specs.Changes.{HasSpelled, IsReadable, behind, changed}
use Rattle.tree_level.specs.ChangesLaws.{spelled-read}
use Rattle.tree_level.specs.Levels.{AreSpelled, above_kind}
use Rattle.index_cells.specs.declared.cells.Taken.{Taken}
use Rattle.index_cells.specs.Respelling.{IsCellAt, IsWhole, cell_of, respelled}
use Rattle.index_cells.specs.RespellingLaws.{cell-respelled}

-- The cell at an index, and what stands in front of it and behind it.
pub record IsMiddle (cells : List Spelled) (at : ℕ) : Type 0 where
  pub cell : Spelled
  pub whole : cells ≡ take at cells ++ cell ∷ drop (suc at) cells
  pub here : (d : Spelled) → slice_index_or cells at d ≡ cell
  pub child : (right : ℕ) → child_page at cells right ≡ cell.view.child
  pub next : (right : ℕ) → child_page (suc at) cells right ≡ child_page (length (take at cells)) (take at cells ++ drop (suc at) cells) right

pub middle : (cells : List Spelled) (at : ℕ) → at < length cells → IsMiddle cells at
middle [] at low = absurd (omega arith)
middle (cell ∷ cells) zero low = record { cell = cell; whole = refl; here = λ d. refl; child = λ right. refl; next = λ right. refl }
middle (cell ∷ cells) (suc at) low =
    let m = middle cells at (omega arith) in
    record { cell = m.cell; whole = ap (λ l. cell ∷ l) m.whole; here = m.here; child = m.child; next = m.next }

pub views-many : (usable : ℕ) (page : TreePage) (cells : List Spelled) → HasSpelled usable page cells → length page.views ≡ length cells
views-many usable page cells has = omega (arith, ap length has.views_are, length-of (λ (cell : Spelled). cell.view) cells)

-- the child at a place, by the views
pub child-got : (cells : List Spelled) (at right : ℕ) → child_or right (slice_get (views_in cells) at) ≡ child_page at cells right
child-got [] at right = refl
child-got (cell ∷ cells) zero right = refl
child-got (cell ∷ cells) (suc at) right = child-got cells at right

-- a page that was read has cells, which lie in its bytes
pub readable : (usable : ℕ) (page : TreePage) → IsDecoded page.bytes page.number usable page → usable ≤ length page.bytes → IsReadable page
readable usable page decoded within = let read = spelled-read usable page decoded in record { usable = usable; cells = read.0; has = read.1; within = within }

-- how many cells there are once some go and others come
pub changed-many : {A : Type 0} (xs : List A) (at : ℕ) (goes : Bool) (ys : List A) → behind at goes ≤ length xs → length (changed xs at goes ys) + behind 0 goes ≡ length xs + length ys
changed-many xs at true ys low =
    omega (arith, length-append (take at xs) (ys ++ drop (suc at) xs), length-append ys (drop (suc at) xs), length-take-le at xs (omega (arith, low)), length-drop (suc at) xs, low)
changed-many xs at false ys low =
    omega (arith, length-append (take at xs) (ys ++ drop at xs), length-append ys (drop at xs), length-take-le at xs (omega (arith, low)), length-drop at xs, low)

pub none-long : {A : Type 0} (xs : List A) → length xs ≡ 0 → xs ≡ []
none-long [] none = refl
none-long (x ∷ xs) none = absurd (omega (arith, none))

pub none-spelled : (kind : PageKind) (usable : ℕ) (cells : List Spelled) → AreSpelled kind usable cells [] → cells ≡ []
none-spelled kind usable cells are = none-map (λ (c : Spelled). c.bytes) cells are.bytes_are

-- cells that can be read
pub spelled-all : (kind : PageKind) (usable : ℕ) (bytes : List (List ℕ)) → All (IsOneCell kind usable) bytes → (cells : List Spelled) × AreSpelled kind usable cells bytes
spelled-all kind usable [] all = ([], record { bytes_are = refl; are_cells = tt })
spelled-all kind usable (x ∷ xs) all =
    let one = all 0 x (omega arith) in
    let rest = spelled-all kind usable xs (λ k d low. all (suc k) d (omega arith)) in
    let cell : Spelled = record { bytes = x; view = one.0 } in
    (cell ∷ rest.0, record { bytes_are = ap (λ (l : List (List ℕ)). x ∷ l) rest.1.bytes_are; are_cells = (one.1, rest.1.are_cells) })

-- are read in one way
spelled-one : (kind : PageKind) (usable : ℕ) (xs ys : List Spelled) → bytes_in xs ≡ bytes_in ys → AllByRecursion (λ cell. IsCell kind usable cell.bytes cell.view) xs
    → AllByRecursion (λ cell. IsCell kind usable cell.bytes cell.view) ys → xs ≡ ys
spelled-one kind usable [] [] bytes one two = refl
spelled-one kind usable [] (y ∷ ys) bytes one two = absurd (let h : ⊥ = cc in h)
spelled-one kind usable (x ∷ xs) [] bytes one two = absurd (let h : ⊥ = cc in h)
spelled-one kind usable (x ∷ xs) (y ∷ ys) bytes one two =
    let first : x.bytes ≡ y.bytes = cc in
    let after : bytes_in xs ≡ bytes_in ys = cc in
    let view : x.view ≡ y.view = (cell-same kind usable x.bytes y.bytes [] [] x.view y.view one.0 two.0 (ap (λ (b : List ℕ). b ++ []) first)).1 in
    let rest = spelled-one kind usable xs ys after one.1 two.1 in
    (λ i. record { bytes = first i; view = view i } ∷ rest i)

pub same-spelled : (kind : PageKind) (usable : ℕ) (xs ys : List Spelled) (bytes : List (List ℕ)) → AreSpelled kind usable xs bytes → AreSpelled kind usable ys bytes → xs ≡ ys
same-spelled kind usable xs ys bytes one two = spelled-one kind usable xs ys (one.bytes_are ∙ sym two.bytes_are) one.are_cells two.are_cells

-- cells with one behind them
pub record IsSpelledBehind (kind : PageKind) (usable : ℕ) (cells : List Spelled) (came : List (List ℕ)) (last : Spelled) : Type 0 where
  pub front : List Spelled
  pub front_are : AreSpelled kind usable front came
  pub whole : cells ≡ front ++ last ∷ []

pub spelled-behind : (kind : PageKind) (usable : ℕ) (cells : List Spelled) (came : List (List ℕ)) (last : Spelled) → AreSpelled kind usable cells (came ++ last.bytes ∷ []) → IsCell kind usable last.bytes last.view
    → IsSpelledBehind kind usable cells came last
spelled-behind kind usable cells came last are is_last =
    let f : Spelled → List ℕ = λ (cell : Spelled). cell.bytes in
    let P : Spelled → Type 0 = λ (cell : Spelled). IsCell kind usable cell.bytes cell.view in
    let s = split-map f cells came (last.bytes ∷ []) are.bytes_are in
    let all = subst (AllByRecursion P) s.whole are.are_cells in
    let one : s.back ≡ last ∷ [] =
    same-spelled kind usable s.back (last ∷ []) (last.bytes ∷ []) (record { bytes_are = s.two; are_cells = all-back P s.front s.back all }) (record { bytes_are = refl; are_cells = (is_last, tt) }) in
    record {
      front = s.front;
      front_are = record { bytes_are = s.one; are_cells = all-front P s.front s.back all };
      whole = s.whole ∙ ap (λ (l : List Spelled). s.front ++ l) one;
    }

-- dividers between two parts
pub with-seam : {A : Type 0} (front back grew : List A) → take (length front) (front ++ back) ++ (grew ++ drop (length front) (front ++ back)) ≡ front ++ (grew ++ back)
with-seam front back grew = λ i. take-append_seam front back i ++ (grew ++ drop-append_seam front back i)

-- items that come behind all others
pub changed-end : {A : Type 0} (xs : List A) (at : ℕ) (ys : List A) → at ≡ length xs → changed xs at false ys ≡ xs ++ ys
changed-end xs at ys is =
    let past : length xs ≤ at = omega (arith, is) in
    (λ i. take_all at xs past i ++ (ys ++ drop_all at xs past i)) ∙ ap (λ (l : List _). xs ++ l) (append-nil ys)

-- Kinds of an index.

pub above-index : (kind : PageKind) → IsOfIndex kind → above_kind kind ≡ IndexInterior
above-index kind (inl leaf) = ap above_kind leaf
above-index kind (inr inner) = ap above_kind inner

-- a page of an index has room for three cells
pub cells-fit : (kind : PageKind) (usable : ℕ) (cells : List (List ℕ)) → IsOfIndex kind → IsUsable usable → All (IsOneCell kind usable) cells → length cells ≤ 3 → needs cells ≤ page_room kind usable
cells-fit kind usable cells (inl leaf) fits all few =
    let room = page_room IndexLeaf usable in
    let cells_are : All (IsOneCell IndexLeaf usable) cells = subst (λ (k : PageKind). All (IsOneCell k usable) cells) leaf all in
    let thrice : 3 * needs cells ≤ length cells * room = thrice-below room cells (λ k d low. omega (arith, cell-need IndexLeaf usable (slice_index_or cells k d) fits (cells_are k d low))) in
    omega (arith, thrice, mul-le-mul_left room few, ap (λ (k : PageKind). page_room k usable) leaf)
cells-fit kind usable cells (inr inner) fits all few =
    let room = page_room IndexInterior usable in
    let cells_are : All (IsOneCell IndexInterior usable) cells = subst (λ (k : PageKind). All (IsOneCell k usable) cells) inner all in
    let thrice : 3 * needs cells ≤ length cells * room = thrice-below room cells (λ k d low. omega (arith, cell-need IndexInterior usable (slice_index_or cells k d) fits (cells_are k d low))) in
    omega (arith, thrice, mul-le-mul_left room few, ap (λ (k : PageKind). page_room k usable) inner)

-- one item more behind others
pub all-behind : (P : List ℕ → Type 0) (xs : List (List ℕ)) (x : List ℕ) → All P xs → P x → All P (xs ++ x ∷ [])
all-behind P [] x all one zero d low = one
all-behind P [] x all one (suc k) d low = absurd (omega arith)
all-behind P (y ∷ ys) x all one zero d low = all 0 d (omega arith)
all-behind P (y ∷ ys) x all one (suc k) d low = all-behind P ys x (λ i e less. all (suc i) e (omega arith)) one k d (omega arith)

-- A cell that was taken out.

pub whole-long : (usable : ℕ) (taken : Taken) → IsOfIndex taken.kind → IsWhole usable taken → child_size taken.kind ≤ length taken.bytes
whole-long usable taken (inl leaf) whole = omega (arith, ap child_size leaf)
whole-long usable taken (inr inner) whole =
    let is : IsCell IndexInterior usable taken.bytes taken.view = subst (λ (k : PageKind). IsCell k usable taken.bytes taken.view) inner whole in
    omega (arith, ap child_size inner, ap length is.whole, length-append is.child_bytes (is.payload_bytes ++ (is.local_bytes ++ is.overflow_bytes)), is.child_length)

-- spelled for another page it is one cell there
pub spelled-there : (usable : ℕ) (taken : Taken) (other : PageKind) (child : ℕ) → IsOfIndex taken.kind → IsOfIndex other → IsWhole usable taken → IsOneCell other usable (respelled taken.kind other child taken.bytes)
spelled-there usable taken other child of also whole = let r = cell-respelled usable taken.kind other child taken.bytes taken.view of also whole in (_, r.is_cell)

pub once-there : (usable : ℕ) (taken : Taken) (other : PageKind) (child : ℕ) (cells : List (List ℕ)) → cells ≡ respelled taken.kind other child taken.bytes ∷ [] → IsOfIndex taken.kind → IsOfIndex other → IsWhole usable taken
    → All (IsOneCell other usable) cells
once-there usable taken other child cells are of also whole = subst⁻¹ (All (IsOneCell other usable)) are first
  where
    first : All (IsOneCell other usable) (respelled taken.kind other child taken.bytes ∷ [])
    first zero d low = spelled-there usable taken other child of also whole
    first (suc k) d low = absurd (omega arith)

module _ (usable : ℕ) (page : TreePage) (cells : List Spelled) (has : HasSpelled usable page cells) where
  -- what a page's view at an index says is what the cell there says
  pub cell-middle : (at : ℕ) (taken : Taken) (m : IsMiddle cells at) → IsCellAt page at taken → m.cell ≡ cell_of taken
  cell-middle at taken m is = sym (m.here m.cell) ∙ is usable cells m.cell has

  -- the cell of a page is one of its kind
  pub cell-whole : (at : ℕ) (taken : Taken) → at < length page.views → IsCellAt page at taken → taken.kind ≡ page.kind → IsWhole usable taken
  cell-whole at taken low is kind =
      let m = middle cells at (omega (arith, low, views-many usable page cells has)) in
      let P : Spelled → Type 0 = λ (cell : Spelled). IsCell page.kind usable cell.bytes cell.view in
      let here = (all-back P (take at cells) (m.cell ∷ drop (suc at) cells) (subst (AllByRecursion P) m.whole has.are_cells)).0 in
      let same = cell-middle at taken m is in
      subst⁻¹ (λ (k : PageKind). IsCell k usable taken.bytes taken.view) kind (subst (λ (c : Spelled). IsCell page.kind usable c.bytes c.view) same here)

module _ (sizes : Sizes) (page : TreePage) (a : Paged) (there : a.pages page.number ≡ page.bytes) where
  -- the cells of the page that was read stand in it
  pub has-cells : (kind : PageKind) → page.kind ≡ kind → (cells : List Spelled) → HasSpelled sizes.usable page cells → HasCells sizes a kind page.number cells page.right
  has-cells kind same cells has = record {
    is_page = subst (λ (k : PageKind). IsPage (a.pages page.number) page.number sizes.usable k (bytes_in cells) page.right) same
        (subst⁻¹ (λ (b : List ℕ). IsPage b page.number sizes.usable page.kind (bytes_in cells) page.right) there has.is_page);
    are_cells = subst (λ (k : PageKind). AllByRecursion (λ cell. IsCell k sizes.usable cell.bytes cell.view) cells) same has.are_cells;
  }
