-- Where the entry that was looked for does not stand, and the cell in which it stands.
use Rattle.std.proofs.Common.{◌≡◌, ℕ, zero, suc, ◌<◌, List, [], ◌∷◌, ◌++◌, length, map, take, drop, slice_get, refl, sym, ap, ◌∙◌, subst, arith}
use Rattle.std.proofs.lemmas.List.Elements.{All-contains, All-from_recursion, Contains-append_right}
use Rattle.std.specs.List.{AllByRecursion}
use Rattle.std.specs.declared.cmp.Ordering.{Ordering}
use Rattle.std.specs.declared.cmp.Ordering.TheVariants.{Less, Equal, Greater}
use Rattle.format_spec.specs.declared.PageKind.TheVariants.{IndexInterior, IndexLeaf}
use Rattle.key_order.specs.declared.order.KeyOrder.{KeyOrder}
use Rattle.key_order.specs.Orders.{Compares, HasEqual, IsEntry, IsEqual, IsRising}
use Rattle.key_order.specs.OrdersLaws.{compares-one, place-alone, rising-entries}
use Rattle.tree_spec.specs.declared.TreeKind.TheVariants.{Index}
use Rattle.tree_spec.specs.Trees.{Member, TreeCell, cells_behind, list_beside, list_of, member, page_of}
use Rattle.tree_spec.specs.Standing.{Sizes, Paged}
use Rattle.tree_spec.specs.WorldsLaws.{all-back, all-front, all-join}
use Rattle.put_spec.specs.Children.{child_at}
use Rattle.put_spec.specs.ChildrenLaws.{child-stands}
use Rattle.put_spec.specs.Steps.{Spelled, child_page, spelled}
use Rattle.put_spec.specs.ParentsLaws.{child-page}
use Rattle.index_delete_spec.specs.Steps.{cell_of as held_of}
use Rattle.tree_walk.specs.declared.page.TreePage.{TreePage}
use Rattle.tree_walk.specs.Pages.{IsDecoded}
use Rattle.tree_walk.specs.Places.{child_or}
use Rattle.tree_level.specs.ChangesLaws.{spelled-read}
use Rattle.put_spec.specs.ImagesLaws.{length-of}
use Rattle.index_cells.specs.declared.cells.Taken.{Taken}
use Rattle.index_cells.specs.Respelling.{IsCellAt, cell_of}
use Rattle.tree_index.specs.declared.searching.Sought.TheVariants.{At, Present}
use Rattle.tree_index.specs.Entries.{members_before, members_behind}
use Rattle.tree_index.specs.EntriesLaws.{members-around}
use Rattle.tree_index.specs.PlacesLaws.{child-rises, has-spelled, kind-is, leaf-high, leaf-list, leaf-low, page-high, page-low, payload-held, read_cells, sought-at, told}
use Rattle.tree_index.specs.ReadsLaws.{child-named}
use Rattle.tree_index.specs.Searches.{IsSought}
use Rattle.index_removal.specs.Deletes.{IsEqualCell, IsMissing}

module _ (order : KeyOrder) (payload : List ℕ) (entry : IsEntry order payload) where
  abbrev Differs : Member → Type 0
  Differs m = ¬ IsEqual order payload m

  -- entries that compare otherwise are not equal
  apart-none : (found : Ordering) → (found ≡ Equal → ⊥) → (members : List Member) → AllByRecursion (λ (m : Member). IsEntry order m.payload) members → AllByRecursion (λ (m : Member). Compares order found m.payload payload) members
      → AllByRecursion Differs members
  apart-none found other [] entries all = tt
  apart-none found other (m ∷ members) entries all = (λ equal. other (compares-one order found Equal m.payload payload entries.0 entry all.0 equal), apart-none found other members entries.1 all.1)

  none-all : (members : List Member) → ¬ HasEqual order payload members → AllByRecursion Differs members
  none-all [] none = tt
  none-all (m ∷ members) none = (
    λ equal. none (m, (0, omega arith, refl), equal),
    none-all members (λ has. none (has.0, Contains-append_right (m ∷ []) members has.0 has.1, has.2)),
  )

  pub all-none : (members : List Member) → AllByRecursion Differs members → ¬ HasEqual order payload members
  all-none members all has = All-contains Differs members has.0 (All-from_recursion Differs members all) has.1 has.2

module _ (sizes : Sizes) (order : KeyOrder) (payload : List ℕ) (entry : IsEntry order payload) (page : TreePage) (base : Paged) (there : base.pages page.number ≡ page.bytes) (decoded : IsDecoded page.bytes page.number sizes.usable page) where
  -- in a leaf
  pub leaf-misses : page.kind ≡ IndexLeaf → (at : ℕ) → IsSought base.pages sizes.size sizes.usable base.count page order payload (At at) → IsMissing sizes order payload page.number base
  leaf-misses kind at found zero tree is stands rises equal =
      let place = sought-at sizes base zero tree page is stands there decoded order payload at found in
      let low = leaf-low order payload entry tree.cells at place.within place.less place.greater rises in
      let high = leaf-high order payload entry tree.cells at place.within place.less place.greater rises in
      let front = map member (take at tree.cells) in
      let back = map member (drop at tree.cells) in
      let apart : list_of Index zero tree ≡ front ++ back = leaf-list order payload entry tree.cells at in
      all-none order payload entry (front ++ back) (place-alone order payload entry front back (subst (IsRising order) apart rises) low high) (subst (HasEqual order payload) apart equal)
  leaf-misses kind at found (suc below) tree is stands rises equal =
      let other : IndexInterior ≡ IndexLeaf = kind-is sizes base (suc below) tree page is stands there decoded ∙ kind in
      let no : ⊥ = cc in no

  -- below an interior page
  pub inner-misses : page.kind ≡ IndexInterior → (at : ℕ) → IsSought base.pages sizes.size sizes.usable base.count page order payload (At at) → (child : ℕ) → child ≡ child_or page.right (slice_get page.views at)
      → IsMissing sizes order payload child base → IsMissing sizes order payload page.number base
  inner-misses kind at found child named missing zero tree is stands rises equal =
      let other : IndexLeaf ≡ IndexInterior = kind-is sizes base zero tree page is stands there decoded ∙ kind in
      let no : ⊥ = cc in no
  inner-misses kind at found child named missing (suc below) tree is stands rises equal =
      let P = λ (m : Member). IsEntry order m.payload in
      let tells = told sizes base (suc below) tree page is stands there decoded in
      let cells = read_cells sizes base (suc below) tree page is stands there decoded in
      let has = has-spelled sizes base (suc below) tree page is stands there decoded in
      let place = sought-at sizes base (suc below) tree page is stands there decoded order payload at found in
      let its = child_at at tree.children tree.last in
      let its_page : page_of below its ≡ child =
      child-page sizes Index base below at tree.children tree.last stands.1.0
      ∙ sym (ap (λ (cs : List Spelled). child_page at cs page.right) tells.0 ∙ ap (λ (r : ℕ). child_page at (map spelled (cells_behind tree.children)) r) tells.1)
      ∙ sym (child-named page cells at has.views_are) ∙ sym named in
      let its_stands = child-stands sizes Index base below at tree.children tree.last stands.1.0 stands.1.1.1 in
      let its_rises = child-rises order payload entry below at tree.children tree.last place.within place.less place.greater rises in
      let its_list = list_of Index below its in
      let none = none-all order payload entry its_list (missing below its its_page its_stands its_rises) in
      let before = members_before below at tree.children in
      let behind = members_behind below at tree.children tree.last in
      let around = members-around below at tree.children tree.last in
      let entries = subst (AllByRecursion P) around (rising-entries order (list_beside Index below tree.children tree.last) rises) in
      let low = page-low order payload entry below at tree.children tree.last place.within place.less place.greater rises in
      let high = page-high order payload entry below at tree.children tree.last place.within place.less place.greater rises in
      let first = apart-none order payload entry Less (λ e. let no : ⊥ = cc in no) before (all-front P before (its_list ++ behind) entries) low in
      let last = apart-none order payload entry Greater (λ e. let no : ⊥ = cc in no) behind (all-back P its_list behind (all-back P before (its_list ++ behind) entries)) high in
      let D = Differs order payload entry in
      all-none order payload entry (before ++ (its_list ++ behind)) (all-join D before (its_list ++ behind) first (all-join D its_list behind none last)) (subst (HasEqual order payload) around equal)

  -- the cell where it stands
  pub cell-equal : (at : ℕ) → IsSought base.pages sizes.size sizes.usable base.count page order payload (Present at) → (row : Taken) → IsCellAt page at row → IsEqualCell sizes order payload row base
  cell-equal at found row is_row held chain out =
      let read = spelled-read sizes.usable page decoded in
      let cells = read.0 in
      let low : at < length cells = omega (arith, found.0, ap length read.1.views_are, length-of (λ (cell : Spelled). cell.view) cells) in
      let cell : TreeCell = held_of (cell_of row) held chain in
      found.1 held (payload-held sizes base page cells read.1 at low cell (is_row sizes.usable cells (spelled cell) read.1) out.0 out.1)
