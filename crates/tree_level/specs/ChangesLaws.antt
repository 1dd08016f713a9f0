-- What changing a list of cells means: crates above cite these facts in their proofs.
use Rattle.std.proofs.Common.{◌≡◌, ℕ, zero, suc, ◌+◌, ◌<◌, ◌≤◌, Bool, true, false, List, [], ◌∷◌, ◌++◌, length, map, take, drop, set, slice_index_or, refl, sym, ap, ◌∙◌, subst, arith, length-append}
use Rattle.std.proofs.Math.Path.{subst⁻¹}
use Rattle.std.specs.List.{AllByRecursion, insert}
use Rattle.std.proofs.lemmas.List.{take-map, drop-map, map-append, take-append-drop, drop-drop, length-take-le}
use Rattle.std.proofs.lemmas.List.Sums.{sum_by-append}
use Rattle.format_spec.specs.declared.PageKind.{PageKind}
use Rattle.format_spec.specs.declared.PageKind.TheVariants.{IndexInterior, TableInterior, IndexLeaf, TableLeaf}
use Rattle.format_spec.specs.declared.CellView.{CellView}
use Rattle.format_spec.specs.Cell.{IsCell}
use Rattle.format_spec.specs.Page.{IsPage, cell_room}
use Rattle.page_spec.specs.Rooms.{needs, right_kept}
use Rattle.page_layout.specs.ViewsLaws.{kind_byte-same}
use Rattle.tree_balance.specs.NeedsLaws.{needs-parts}
use Rattle.tree_spec.specs.WorldsLaws.{all-front, all-back, all-join}
use Rattle.put_spec.specs.Steps.{Spelled, bytes_in, views_in}
use Rattle.tree_walk.specs.declared.page.TreePage.{TreePage}
use Rattle.tree_walk.specs.Pages.{IsDecoded}
use Rattle.tree_level.specs.Changes.{behind, changed, HasSpelled}

-- A page that was read has cells.

record IsZipped (kind : PageKind) (usable : ℕ) (bytes : List (List ℕ)) (views : List CellView) : Type 0 where
  pub cells : List Spelled
  pub bytes_are : bytes_in cells ≡ bytes
  pub views_are : views_in cells ≡ views
  pub are_cells : AllByRecursion (λ cell. IsCell kind usable cell.bytes cell.view) cells

zipped : (kind : PageKind) (usable : ℕ) (bytes : List (List ℕ)) (views : List CellView) → length views ≡ length bytes
    → ((k : ℕ) (d : CellView) → k < length bytes → IsCell kind usable (slice_index_or bytes k []) (slice_index_or views k d)) → IsZipped kind usable bytes views
zipped kind usable [] [] many each = record { cells = []; bytes_are = refl; views_are = refl; are_cells = tt }
zipped kind usable [] (v ∷ vs) many each = absurd (omega arith)
zipped kind usable (x ∷ xs) [] many each = absurd (omega arith)
zipped kind usable (x ∷ xs) (v ∷ vs) many each =
    let rest = zipped kind usable xs vs (omega arith) (λ k d low. each (suc k) d (omega arith)) in
    let cell : Spelled = record { bytes = x; view = v } in
    record {
      cells = cell ∷ rest.cells;
      bytes_are = ap (λ l. x ∷ l) rest.bytes_are;
      views_are = ap (λ l. v ∷ l) rest.views_are;
      are_cells = (each 0 v (omega arith), rest.are_cells);
    }

pub spelled-read : (usable : ℕ) (page : TreePage) → IsDecoded page.bytes page.number usable page → (cells : List Spelled) × HasSpelled usable page cells
spelled-read usable page decoded =
    let has = decoded.has_views in
    let kind : has.kind ≡ page.kind = kind_byte-same has.kind page.kind (sym has.is_page.kind_is ∙ decoded.kind_is) in
    let z = zipped page.kind usable has.cells page.views has.many (λ k d low. subst (λ (p : PageKind). IsCell p usable (slice_index_or has.cells k []) (slice_index_or page.views k d)) kind (has.each k d low)) in
    let there : IsPage page.bytes page.number usable page.kind has.cells has.right = subst (λ (p : PageKind). IsPage page.bytes page.number usable p has.cells has.right) kind has.is_page in
    let right : IsPage page.bytes page.number usable page.kind has.cells page.right = record {
      kind_is = there.kind_is;
      count = there.count;
      each = there.each;
      apart = there.apart;
      right_child = decoded.right_is;
    } in (
      z.cells,
      record {
        is_page = subst⁻¹ (λ (l : List (List ℕ)). IsPage page.bytes page.number usable page.kind l page.right) z.bytes_are right;
        are_cells = z.are_cells;
        views_are = z.views_are;
      },
    )

-- the right child that a page has is the one that its kind keeps
pub right-kept_of : (page : List ℕ) (number usable : ℕ) (kind : PageKind) (cells : List (List ℕ)) (right : ℕ) → IsPage page number usable kind cells right → right_kept kind right ≡ right
right-kept_of page number usable TableLeaf cells right is = sym is.right_child
right-kept_of page number usable TableInterior cells right is = refl
right-kept_of page number usable IndexLeaf cells right is = sym is.right_child
right-kept_of page number usable IndexInterior cells right is = refl

-- Lists that change.

pub changed-map : {A B : Type 0} (f : A → B) (xs : List A) (at : ℕ) (goes : Bool) (ys : List A) → map f (changed xs at goes ys) ≡ changed (map f xs) at goes (map f ys)
changed-map f xs at goes ys =
    map-append f (take at xs) (ys ++ drop (behind at goes) xs)
    ∙ ap (λ l. map f (take at xs) ++ l) (map-append f ys (drop (behind at goes) xs))
    ∙ (λ i. sym (take-map f at xs) i ++ (map f ys ++ sym (drop-map f (behind at goes) xs) i))

pub all-changed : {A : Type 0} (P : A → Type 0) (xs : List A) (at : ℕ) (goes : Bool) (ys : List A) → AllByRecursion P xs → AllByRecursion P ys → AllByRecursion P (changed xs at goes ys)
all-changed P xs at goes ys all more =
    let b = behind at goes in
    all-join P (take at xs) (ys ++ drop b xs) (all-front P (take at xs) (drop at xs) (subst⁻¹ (AllByRecursion P) (take-append-drop at xs) all))
    (all-join P ys (drop b xs) more (all-back P (take b xs) (drop b xs) (subst⁻¹ (AllByRecursion P) (take-append-drop b xs) all)))

-- one item in place of another
pub changed-set : {A : Type 0} (xs : List A) (at : ℕ) (x : A) → at < length xs → changed xs at true (x ∷ []) ≡ set xs at x
changed-set [] at x low = absurd (omega arith)
changed-set (y ∷ ys) zero x low = refl
changed-set (y ∷ ys) (suc at) x low = ap (λ l. y ∷ l) (changed-set ys at x (omega arith))

-- an item goes, and then others come
pub changed-twice : {A : Type 0} (xs : List A) (at : ℕ) (goes : Bool) (ys : List A) → changed (changed xs at goes []) at false ys ≡ changed xs at goes ys
changed-twice xs zero goes ys = refl
changed-twice [] (suc at) true ys = refl
changed-twice [] (suc at) false ys = refl
changed-twice (x ∷ xs) (suc at) true ys = ap (λ l. x ∷ l) (changed-twice xs at true ys)
changed-twice (x ∷ xs) (suc at) false ys = ap (λ l. x ∷ l) (changed-twice xs at false ys)

-- the first of the items that come is put in, and then the others behind it
pub changed-first : {A : Type 0} (xs : List A) (at : ℕ) (x : A) (ys : List A) → at ≤ length xs → changed (insert xs at x) (suc at) false ys ≡ changed xs at false (x ∷ ys)
changed-first xs zero x ys low = refl
changed-first [] (suc at) x ys low = absurd (omega arith)
changed-first (z ∷ zs) (suc at) x ys low = ap (λ l. z ∷ l) (changed-first zs at x ys (omega arith))

pub changed-none : {A : Type 0} (xs : List A) (at : ℕ) → changed xs at false [] ≡ xs
changed-none xs at = take-append-drop at xs

-- the cells of the front stay where they are
pub behind-least : (at : ℕ) (goes : Bool) → at ≤ behind at goes
behind-least at true = omega arith
behind-least at false = omega arith

pub changed-front : {A : Type 0} (xs : List A) (at : ℕ) (goes : Bool) (ys : List A) → behind at goes ≤ length xs → at ≤ length (changed xs at goes ys)
changed-front xs at goes ys low =
    omega (arith, behind-least at goes, length-append (take at xs) (ys ++ drop (behind at goes) xs), length-take-le at xs (omega (arith, low, behind-least at goes)))

-- the bytes that cells need
pub needs-append : (xs ys : List (List ℕ)) → needs (xs ++ ys) ≡ needs xs + needs ys
needs-append xs ys = omega (arith, sum_by-append cell_room xs ys, length-append xs ys)

pub needs-changed : (xs : List (List ℕ)) (at : ℕ) (goes : Bool) (ys : List (List ℕ)) → needs (changed xs at goes ys) ≡ needs (take at xs) + (needs ys + needs (drop (behind at goes) xs))
needs-changed xs at goes ys = omega (arith, needs-append (take at xs) (ys ++ drop (behind at goes) xs), needs-append ys (drop (behind at goes) xs))

pub needs-changed_most : (xs : List (List ℕ)) (at : ℕ) (goes : Bool) (ys : List (List ℕ)) → needs (changed xs at goes ys) ≤ needs xs + needs ys
needs-changed_most xs at false ys = omega (arith, needs-changed xs at false ys, needs-parts xs at)
needs-changed_most xs at true ys =
    let next : at + 1 ≡ suc at = omega arith in
    let rest : needs (drop 1 (drop at xs)) ≡ needs (drop (suc at) xs) = ap needs (drop-drop 1 at xs ∙ ap (λ (n : ℕ). drop n xs) next) in
    omega (arith, needs-changed xs at true ys, needs-parts xs at, needs-parts (drop at xs) 1, rest)
