-- The order of entries by a key, and lists in it (Database File Format, sections 2.4 and 2.5).
use Rattle.std.specs.Prelude.{◌≡◌, ℕ, ◌+◌, ◌≤◌, if◌then◌else◌, List, [], ◌∷◌, length}
use Rattle.std.specs.List.{AllByRecursion, Contains}
use Rattle.std.specs.declared.cmp.Ordering.{Ordering}
use Rattle.std.specs.declared.cmp.Ordering.TheVariants.{Less, Equal, Greater}
use Rattle.rbu_value.specs.declared.value.Value.{Value}
use Rattle.format_spec.specs.Record.{IsRecord}
use Rattle.tree_spec.specs.Trees.{Member}
use Rattle.database_spec.specs.Keys.{columns_cmp, entry_cmp}
use Rattle.key_order.specs.declared.order.KeyOrder.{KeyOrder}

-- keys compare by their columns, and where the rowid comes last by the value behind these too, which rises
abbrev pub key_cmp : KeyOrder → List Value → List Value → Ordering
key_cmp order a b = if order.rowid_last then entry_cmp order.columns a b else columns_cmp order.columns a b

-- how many values of a record are compared
abbrev pub key_length : KeyOrder → ℕ
key_length order = if order.rowid_last then length order.columns + 1 else length order.columns

-- the bytes are a record that has the values which the order compares
pub record IsEntry (order : KeyOrder) (bytes : List ℕ) : Type 0 where
  pub values : List Value
  pub is_record : IsRecord bytes values
  pub long : key_length order ≤ length values

-- two records compare so
abbrev pub Compares : KeyOrder → Ordering → List ℕ → List ℕ → Type 0
Compares order found x y = (a b : List Value) → IsRecord x a → IsRecord y b → key_cmp order a b ≡ found

-- an entry stands before another one, behind it, or is equal to it
abbrev pub IsLow : KeyOrder → List ℕ → Member → Type 0
IsLow order payload m = Compares order Less m.payload payload

abbrev pub IsHigh : KeyOrder → List ℕ → Member → Type 0
IsHigh order payload m = Compares order Greater m.payload payload

abbrev pub IsEqual : KeyOrder → List ℕ → Member → Type 0
IsEqual order payload m = Compares order Equal m.payload payload

-- each member is an entry, and stands before all that follow it: the list strictly rises
abbrev pub IsRising : KeyOrder → List Member → Type 0
IsRising order [] = Unit {0}
IsRising order (m ∷ members) = IsEntry order m.payload × AllByRecursion (λ (n : Member). Compares order Less m.payload n.payload) members × IsRising order members

-- an equal entry stands in the list
abbrev pub HasEqual : KeyOrder → List ℕ → List Member → Type 0
HasEqual order payload members = (m : Member) × Contains members m × IsEqual order payload m
