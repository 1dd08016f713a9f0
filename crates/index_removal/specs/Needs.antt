-- How many pages a delete uses, and what it refuses.
use Rattle.std.specs.Prelude.{◌≡◌, ℕ, Option, Some, None}
use Rattle.key_order.specs.declared.order.KeyOrder.{KeyOrder}
use Rattle.tree_spec.specs.declared.TreeKind.TheVariants.{Index}
use Rattle.tree_spec.specs.declared.fault.TreeFault.{TreeFault}
use Rattle.tree_spec.specs.Faults.{IsOther}
use Rattle.tree_spec.specs.Trees.{IsFull, IsFullRoot, TreeOf, list_of, page_of}
use Rattle.tree_spec.specs.Standing.{Sizes, Paged, Stands}
use Rattle.tree_pages.specs.Takes.{UsesBy}
use Rattle.index_delete.specs.declared.closing.Removed.{Removed}
use Rattle.index_delete.specs.Deletes.{below_most}
use Rattle.index_delete.specs.Needs.{UsesBelow}
use Rattle.tree_index.specs.Needs.{AreEntries}

-- how many pages a delete takes at most: two for each level of a tree, and some more (the lock-byte page counted)
abbrev pub delete_pages : ℕ
delete_pages = 54

-- whatever index of entries stands at a page, the store failed or memory is wanting
abbrev pub IsOtherUnder : {F : Type 0} → Sizes → KeyOrder → ℕ → Paged → TreeFault F → Type 0
IsOtherUnder sizes order page base fault =
    (levels : ℕ) (tree : TreeOf levels) → page_of levels tree ≡ page → Stands sizes base Index levels tree → AreEntries order (list_of Index levels tree) → IsOther fault

-- an index of entries without an empty page, below a root and from one on
abbrev pub IsFullIndex : KeyOrder → (levels : ℕ) → TreeOf levels → Type 0
IsFullIndex order levels tree = IsFull levels tree × AreEntries order (list_of Index levels tree)

abbrev pub IsFullRootIndex : KeyOrder → (levels : ℕ) → TreeOf levels → Type 0
IsFullRootIndex order levels tree = IsFullRoot levels tree × AreEntries order (list_of Index levels tree)

-- how many pages are taken below a page that has so many levels below it
abbrev pub removed_most : ℕ → Option Removed → ℕ
removed_most levels None = 0
removed_most levels (Some removed) = below_most levels removed.left

-- and how many more are in use then
abbrev pub UsesUnder : Sizes → ℕ → Option Removed → Paged → Paged → Type 0
UsesUnder sizes page None old new = UsesBy sizes 0 old new
UsesUnder sizes page (Some removed) old new = UsesBelow sizes page removed.left old new
