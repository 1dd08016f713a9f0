-- What a delete leaves of an index's tree.
use Rattle.std.specs.Prelude.{◌≡◌, ℕ, Bool, true, false, List, Option, Some, None}
use Rattle.std.specs.declared.cmp.Ordering.TheVariants.{Equal}
use Rattle.key_order.specs.declared.order.KeyOrder.{KeyOrder}
use Rattle.key_order.specs.Orders.{Compares, HasEqual, IsEntry, IsEqual, IsRising}
use Rattle.page_spec.specs.Freelists.{Trunk}
use Rattle.tree_spec.specs.declared.TreeKind.TheVariants.{Index}
use Rattle.tree_spec.specs.Trees.{Member, Rooted, TreeOf, list_in, list_of, page_of, root_of}
use Rattle.tree_spec.specs.Standing.{Sizes, Paged, Stands}
use Rattle.tree_spec.specs.Worlds.{IsWorld, with_tree}
use Rattle.tree_spec.specs.Changes.{SameHeader}
use Rattle.delete_spec.specs.Deletes.{TakenOut}
use Rattle.index_delete_spec.specs.Deletes.{IsOut}
use Rattle.index_delete_spec.specs.Steps.{DeleteInto, cell_of as held_of}
use Rattle.tree_walk.specs.Pages.{IsDecoded}
use Rattle.index_cells.specs.declared.cells.Taken.{Taken}
use Rattle.index_cells.specs.Respelling.{cell_of}
use Rattle.index_delete.specs.declared.closing.Removed.{Removed}
use Rattle.index_delete.specs.Deletes.{Leaves}
use Rattle.tree_index.specs.Puts.{OfWorlds}
use Rattle.tree_index.specs.Searches.{IsSought}
use Rattle.index_removal.specs.declared.finding.Found.{Found}

module _ (sizes : Sizes) (order : KeyOrder) (payload : List ℕ) where
  -- A page was read, and the entry looked for among its cells.
  pub record IsFound (number : ℕ) (found : Found) (base : Paged) : Type 0 where
    pub decoded : IsDecoded (base.pages number) number sizes.usable found.page
    pub sought : IsSought base.pages sizes.size sizes.usable base.count found.page order payload found.sought

  -- no equal entry stands in whatever index that rises stands at a page
  abbrev pub IsMissing : ℕ → Paged → Type 0
  IsMissing page base =
      (levels : ℕ) (tree : TreeOf levels) → page_of levels tree ≡ page → Stands sizes base Index levels tree → IsRising order (list_of Index levels tree) → ¬ HasEqual order payload (list_of Index levels tree)

  -- a cell that was taken out held an equal entry
  abbrev pub IsEqualCell : Taken → Paged → Type 0
  IsEqualCell row base = (held : List ℕ) (chain : List ℕ) → IsOut sizes base (held_of (cell_of row) held chain) → Compares order Equal held payload

  -- The equal entry is out of whatever index stands at a page, or there is none, and nothing changed.
  abbrev pub DeletesUnder : ℕ → Option Removed → Paged → Paged → Type 0
  DeletesUnder page None old new = (new ≡ old) × IsMissing page old
  DeletesUnder page (Some removed) old new = Leaves sizes false removed.row page removed.left old new × IsEqualCell removed.row old

  -- the same of the page of a root
  abbrev pub DeletesInto : ℕ → Option Taken → Paged → Paged → Type 0
  DeletesInto root None old new = (new ≡ old) × IsMissing root old
  DeletesInto root (Some row) old new = DeleteInto sizes (cell_of row) root old new × IsEqualCell row old

-- whatever entry was looked for in a page that was read, it is out of whatever index stands there, or there is none
abbrev pub DeletesFound : Sizes → Found → Option Removed → Paged → Paged → Type 0
DeletesFound sizes found removed old new =
    (order : KeyOrder) (payload : List ℕ) → IsEntry order payload → IsFound sizes order payload found.page.number found old → DeletesUnder sizes order payload found.page.number removed old new

abbrev pub DeletesRoot : Sizes → Found → Option Taken → Paged → Paged → Type 0
DeletesRoot sizes found taken old new =
    (order : KeyOrder) (payload : List ℕ) → IsEntry order payload → IsFound sizes order payload found.page.number found old → DeletesInto sizes order payload found.page.number taken old new

-- An index has lost the one entry that was equal, and its list rises still. All other trees are as they were, no page is lost, and of page 1's first 100 bytes only the size in pages and the freelist's fields may have changed.
pub record HasDeleted (sizes : Sizes) (order : KeyOrder) (payload : List ℕ) (front : List Rooted) (index : Rooted) (back : List Rooted) (old new : Paged) : Type 0 where
  pub now : Rooted
  pub trunks : List Trunk
  pub world : IsWorld sizes new (with_tree front now back trunks)
  pub root : root_of now ≡ root_of index
  pub kind_is : now.kind ≡ Index
  pub gone : Member
  pub equal : IsEqual order payload gone
  pub list : TakenOut gone (list_in index) (list_in now)
  pub rises : IsRising order (list_in now)
  pub absent : ¬ HasEqual order payload (list_in now)
  pub header : SameHeader (old.pages 1) (new.pages 1)

-- what a delete answers and leaves: the index has lost the equal entry; or there is none, and nothing changed
abbrev pub DeletesEntry : Sizes → ℕ → KeyOrder → List ℕ → ℕ → Bool → Paged → Paged → Type 0
DeletesEntry sizes root order payload limit true old new = OfWorlds sizes root order limit old (λ front index back. HasDeleted sizes order payload front index back old new)
DeletesEntry sizes root order payload limit false old new = (new ≡ old) × OfWorlds sizes root order limit old (λ front index back. ¬ HasEqual order payload (list_in index))
