-- Entries of an index that agree with another one in its columns, as uniqueness takes them (CREATE INDEX, section 1.1: NULLs are distinct).
use Rattle.std.specs.Prelude.{◌≡◌, ◌≤◌, ℕ, Bool, true, false, List, length, take, Result, IfErr}
use Rattle.std.specs.List.{list_any}
use Rattle.common_spec.specs.Reading.{OrFault}
use Rattle.rbu_value.specs.declared.value.Value.{Value}
use Rattle.format_spec.specs.Record.{IsRecord}
use Rattle.tree_spec.specs.declared.TreeKind.TheVariants.{Index}
use Rattle.tree_spec.specs.declared.fault.TreeFault.{TreeFault}
use Rattle.tree_spec.specs.Faults.{IsDamageOrOther, IsOther}
use Rattle.tree_spec.specs.Trees.{Member, TreeOf, list_of, page_of}
use Rattle.tree_spec.specs.Standing.{Sizes, Paged, IsTree, Stands}
use Rattle.database_spec.specs.Keys.{is_null}
use Rattle.key_order.specs.declared.order.KeyOrder.{KeyOrder}
use Rattle.key_order.specs.Orders.{HasEqual, IsRising}

-- the order by the same columns, and then by the rowid: that in which an index stands
abbrev pub with_rowid : KeyOrder → KeyOrder
with_rowid order = record { columns = order.columns; rowid_last = true }

-- whether a NULL is among the columns of an entry
abbrev pub TellsNull : KeyOrder → List ℕ → Bool → Type 0
TellsNull order payload found = (values : List Value) → IsRecord payload values → list_any is_null (take (length order.columns) values) ≡ found

-- an entry stands in a list that agrees with another one, and no NULL is among the columns of these
abbrev pub HasAlike : KeyOrder → List ℕ → List Member → Type 0
HasAlike order payload members = TellsNull order payload false × HasEqual order payload members

-- whether one does
abbrev pub TellsAlike : KeyOrder → List ℕ → List Member → Bool → Type 0
TellsAlike order payload members true = HasAlike order payload members
TellsAlike order payload members false = ¬ HasAlike order payload members

-- refusal 55, or the store failed, or memory is wanting: a search meets no page of the freelist and takes none
abbrev pub IsSearchFault : {F : Type 0} → TreeFault F → Type 0
IsSearchFault fault = IsDamageOrOther (λ number rule. Unit {0}) fault

-- What a search by the columns answers of the index at a root, whose list rises by the columns and then the rowid. Over such an index nothing is refused but that the store failed or memory is wanting.
pub record FindsAlike {F : Type 0} (sizes : Sizes) (base : Paged) (root : ℕ) (order : KeyOrder) (payload : List ℕ) (result : Result Bool (TreeFault F)) : Type 0 where
  pub refuses : IfErr result IsSearchFault
  pub answer : (depth : ℕ) (members : List Member) (numbers : List ℕ) → IsTree sizes base root Index depth members numbers → IsRising (with_rowid order) members → OrFault (TellsAlike order payload members) IsOther result

-- whether an equal entry stands in a list, whatever its columns hold
abbrev pub TellsEqual : KeyOrder → List ℕ → List Member → Bool → Type 0
TellsEqual order payload members true = HasEqual order payload members
TellsEqual order payload members false = ¬ HasEqual order payload members

-- so in whatever index stands at a page, of so many levels at most
pub record FindsUnder {F : Type 0} (sizes : Sizes) (base : Paged) (page most : ℕ) (order : KeyOrder) (payload : List ℕ) (result : Result Bool (TreeFault F)) : Type 0 where
  pub refuses : IfErr result IsSearchFault
  pub answer : (levels : ℕ) (tree : TreeOf levels) → levels ≤ most → page_of levels tree ≡ page → Stands sizes base Index levels tree → IsRising (with_rowid order) (list_of Index levels tree)
      → OrFault (TellsEqual order payload (list_of Index levels tree)) IsOther result
