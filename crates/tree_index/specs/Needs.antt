-- How many pages a put takes, and what it refuses.
use Rattle.std.specs.Prelude.{◌≡◌, ℕ, ◌+◌, ◌-◌, ◌*◌, ◌<◌, ◌≤◌, ◌⊎◌, Some, List, length, Result, IfErr}
use Rattle.std.specs.List.{AllByRecursion}
use Rattle.format_spec.specs.declared.PageKind.TheVariants.{IndexLeaf}
use Rattle.format_spec.specs.Cell.{local_size}
use Rattle.key_order.specs.declared.order.KeyOrder.{KeyOrder}
use Rattle.key_order.specs.Orders.{IsEntry}
use Rattle.page_spec.specs.Chains.{pages_for}
use Rattle.page_spec.specs.Counts.{times}
use Rattle.page_spec.specs.Freelists.{Trunk, free_pages}
use Rattle.page_spec.specs.Pages.{Pages}
use Rattle.page_store.specs.declared.store.PageRead.{Ghosts}
use Rattle.tree_spec.specs.declared.TreeKind.TheVariants.{Index}
use Rattle.tree_spec.specs.declared.fault.TreeFault.{TreeFault}
use Rattle.tree_spec.specs.Faults.{IsFull, IsOther}
use Rattle.tree_spec.specs.Trees.{Member, Rooted, TreeOf, list_in, list_of, page_of, pages_of, root_of}
use Rattle.tree_spec.specs.Standing.{Sizes, Paged, Stands}
use Rattle.tree_spec.specs.Worlds.{IsFree, IsWorld, with_tree}
use Rattle.tree_spec.specs.Changes.{Within}
use Rattle.tree_pages.specs.Takes.{IsShort, TakesAtMost}
use Rattle.tree_pages.specs.Writers.{paged, sizes_of}
use Rattle.tree_walk.specs.declared.page.TreePage.{TreePage}

-- how many overflow pages an entry's payload of so many bytes fills
abbrev pub overflow_pages : ℕ → ℕ → ℕ
overflow_pages usable payload = pages_for usable (payload - local_size IndexLeaf usable payload)

-- how many pages a put needs at most: two for each level of a tree, some more, and those of its payload (the lock-byte page counted)
abbrev pub put_pages : ℕ → ℕ → ℕ
put_pages usable payload = 54 + overflow_pages usable payload

-- whatever pages are in hand with this one, so many at most were taken
abbrev pub TakesAt : Sizes → ℕ → ℕ → Paged → Paged → Type 0
TakesAt sizes page most old new = (hand : List ℕ) (trunks : List Trunk) → IsFree sizes old trunks → Within sizes old hand trunks → 0 < times page hand → TakesAtMost sizes most hand old trunks new

-- whatever index stands at a page, and whatever pages are in hand with its own, two at most were taken for each of its levels, and some more
abbrev pub TakesUnder : Sizes → ℕ → ℕ → Paged → Paged → Type 0
TakesUnder sizes more page old new =
    (levels : ℕ) (tree : TreeOf levels) (hand : List ℕ) (trunks : List Trunk) → page_of levels tree ≡ page → Stands sizes old Index levels tree → IsFree sizes old trunks → Within sizes old hand trunks
    → ((n : ℕ) → times n (pages_of levels tree) ≤ times n hand) → TakesAtMost sizes (2 * levels + more) hand old trunks new

-- each member is an entry
abbrev pub AreEntries : KeyOrder → List Member → Type 0
AreEntries order members = AllByRecursion (λ m. IsEntry order m.payload) members

-- Whatever index of entries stands at a page, of so many levels at most: the fault is that fewer pages could be taken than two for each level below its own page, and some more.
abbrev pub IsShortUnder : {F : Type 0} → Sizes → KeyOrder → ℕ → ℕ → ℕ → ℕ → Paged → ℕ → TreeFault F → Type 0
IsShortUnder sizes order most more limit page old count fault =
    (levels : ℕ) (tree : TreeOf levels) (trunks : List Trunk) → levels ≤ most → page_of levels tree ≡ page → Stands sizes old Index levels tree → AreEntries order (list_of Index levels tree) → IsFree sizes old trunks
    → Within sizes old (pages_of levels tree) trunks → IsShort sizes (2 * levels + more) limit old trunks count fault

-- whatever index of entries stands at a leaf's page: the fault is that fewer pages could be taken than so many
abbrev pub IsShortLeaf : {F : Type 0} → Sizes → KeyOrder → ℕ → ℕ → ℕ → Paged → ℕ → TreeFault F → Type 0
IsShortLeaf sizes order most limit page old count fault =
    (levels : ℕ) (tree : TreeOf levels) (trunks : List Trunk) → page_of levels tree ≡ page → Stands sizes old Index levels tree → AreEntries order (list_of Index levels tree) → IsFree sizes old trunks
    → IsShort sizes most limit old trunks count fault

module _ {P F : Type 0} (g : Ghosts P F) where
  -- so what is refused at a leaf that was read
  abbrev pub RefusesLeaf : {T : Type 0} → KeyOrder → ℕ → ℕ → TreePage → P → P → Result T (TreeFault F) → Type 0
  RefusesLeaf order most limit page before after result =
      (m : Pages) → g.pages before ≡ Some m → m page.number ≡ page.bytes → IfErr result (IsShortLeaf (sizes_of g before) order most limit page.number (paged g before m) (g.count after))

  -- so what is refused below a page
  abbrev pub RefusesUnder : {T : Type 0} → KeyOrder → ℕ → ℕ → ℕ → ℕ → P → P → Result T (TreeFault F) → Type 0
  RefusesUnder order most more limit page before after result =
      (m : Pages) → g.pages before ≡ Some m → IfErr result (IsShortUnder (sizes_of g before) order most more limit page (paged g before m) (g.count after))

  -- In every world with an index of entries at this root a call refuses nothing but that no page is left, [51], with the pages that there are then and the limit, and that only where free pages and pages up to the limit were together fewer than so many.
  abbrev pub RefusesFull : {T : Type 0} → KeyOrder → ℕ → ℕ → ℕ → P → P → Result T (TreeFault F) → Type 0
  RefusesFull order root most limit before after result =
      (m : Pages) (front : List Rooted) (index : Rooted) (back : List Rooted) (trunks : List Trunk) → g.pages before ≡ Some m → IsWorld (sizes_of g before) (paged g before m) (with_tree front index back trunks)
      → index.kind ≡ Index → root_of index ≡ root → AreEntries order (list_in index)
      → IfErr result (λ fault. IsOther fault ⊎ (IsFull (g.count after) limit fault × (length (free_pages trunks) + (limit - g.count before) < most)))
