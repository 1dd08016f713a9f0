-- Entries that are equal by the columns of an index, among others in its order by these and then the rowid.
use Rattle.std.proofs.Common.{◌≡◌, ℕ, Bool, true, false, if◌then◌else◌, List, ◌++◌, refl, sym, subst, inl, inr}
use Rattle.std.proofs.lemmas.List.Elements.{All-contains, All-from_recursion, Contains-append_cases}
use Rattle.std.specs.List.{AllByRecursion, Contains}
use Rattle.std.specs.Ordering.{ordering_then, ordering_reverse}
use Rattle.std.specs.declared.cmp.Ordering.{Ordering}
use Rattle.std.specs.declared.cmp.Ordering.TheVariants.{Less, Equal, Greater}
use Rattle.rbu_value.specs.declared.order.Collation.{Collation}
use Rattle.rbu_value.specs.declared.order.Collation.TheVariants.{Binary}
use Rattle.rbu_value.specs.declared.value.Value.{Value}
use Rattle.rbu_value.specs.Order.{value_cmp}
use Rattle.tree_spec.specs.Trees.{Member}
use Rattle.database_spec.specs.Keys.{columns_cmp, entry_cmp, last_value}
use Rattle.key_order.specs.declared.order.KeyOrder.{KeyOrder}
use Rattle.key_order.specs.Orders.{Compares, IsEntry, IsHigh, IsLow}
use Rattle.key_order.specs.OrdersLaws.{compares-one, compares-turn, equal-alike}
use Rattle.index_lookup.specs.Alikes.{with_rowid}
use Rattle.index_lookup.specs.AlikesLaws.{entry-columns}

-- what differs in the columns compares by these
then-first : (found o p : Ordering) → (found ≡ Equal → ⊥) → o ≡ found → ordering_then o p ≡ found
then-first found Less p other e = e
then-first found Equal p other e = absurd (other (sym e))
then-first found Greater p other e = e

columns-first : (last : Bool) (columns : List (Collation × Bool)) (a b : List Value) (found : Ordering) → (found ≡ Equal → ⊥) → (if last then entry_cmp columns a b else columns_cmp columns a b) ≡ found → entry_cmp columns a b ≡ found
columns-first true columns a b found other e = e
columns-first false columns a b found other e = then-first found (columns_cmp columns a b) (value_cmp Binary (last_value columns a) (last_value columns b)) other e

twice : (o : Ordering) → ordering_reverse (ordering_reverse o) ≡ o
twice Less = refl
twice Equal = refl
twice Greater = refl

no-turn : (found : Ordering) → (found ≡ Equal → ⊥) → found ≡ ordering_reverse found → ⊥
no-turn Less other e = let no : ⊥ = cc in no
no-turn Equal other e = other refl
no-turn Greater other e = let no : ⊥ = cc in no

module _ (order : KeyOrder) where
  -- an entry that stands before another one, or behind it, stands so to each that is equal to that
  pub beside-equal : (found : Ordering) → (found ≡ Equal → ⊥) → (x y payload : List ℕ) → IsEntry (with_rowid order) x → IsEntry (with_rowid order) y → IsEntry order payload → Compares order Equal y payload
      → Compares order found x payload → Compares (with_rowid order) found x y
  beside-equal found other x y payload ex ey entry equal is a b ra rb =
      let x_less = entry-columns order x ex in
      let y_less = entry-columns order y ey in
      let turned = equal-alike order (ordering_reverse found) payload y x entry y_less x_less (compares-turn order Equal y payload y_less entry equal) (compares-turn order found x payload x_less entry is) in
      let there : Compares order found x y = subst (λ (o : Ordering). Compares order o x y) (twice found) (compares-turn order (ordering_reverse found) y x y_less x_less turned) in
      columns-first order.rowid_last order.columns a b found other (there a b ra rb)

  -- no entry stands before itself, or behind
  never-beside : (found : Ordering) → (found ≡ Equal → ⊥) → (x : List ℕ) → IsEntry order x → Compares order found x x → ⊥
  never-beside found other x ex is = no-turn found other (compares-one order found (ordering_reverse found) x x ex ex is (compares-turn order found x x ex ex is))

  -- an entry stands between those before it and those behind it
  pub stands-between : (m : Member) → IsEntry order m.payload → (xs ys zs : List Member) → AllByRecursion (IsLow order m.payload) xs → AllByRecursion (IsHigh order m.payload) zs → Contains (xs ++ (ys ++ zs)) m → Contains ys m
  stands-between m entry xs ys zs low high has =
      elim (Contains-append_cases xs (ys ++ zs) m has) [
        | inl before ↦
            let less = All-contains (IsLow order m.payload) xs m (All-from_recursion (IsLow order m.payload) xs low) before in
            absurd (never-beside Less (λ e. let no : ⊥ = cc in no) m.payload entry less)
        | inr rest ↦ elim (Contains-append_cases ys zs m rest) [
          | inl here ↦ here
          | inr behind ↦
              let greater = All-contains (IsHigh order m.payload) zs m (All-from_recursion (IsHigh order m.payload) zs high) behind in
              absurd (never-beside Greater (λ e. let no : ⊥ = cc in no) m.payload entry greater)
        ]
      ]
