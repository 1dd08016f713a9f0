-- The order of entries, and that a table has one projection for an index: crates above cite these facts in their proofs.
use Rattle.std.proofs.Common.{◌≡◌, ◌≢◌, ℤ, Bool, true, false, List, [], ◌∷◌, map, refl, sym, ap, ap₂, ◌∙◌}
use Rattle.std.specs.Ordering.{ordering_then, ordering_reverse}
use Rattle.std.specs.declared.cmp.Ordering.{Ordering}
use Rattle.std.specs.declared.cmp.Ordering.TheVariants.{Less, Equal, Greater}
use Rattle.rbu_value.specs.declared.order.Collation.{Collation}
use Rattle.rbu_value.specs.declared.order.Collation.TheVariants.{Binary}
use Rattle.rbu_value.specs.declared.value.Value.{Value}
use Rattle.rbu_value.specs.declared.value.Value.TheVariants.{Int}
use Rattle.rbu_value.specs.Order.{value_cmp}
use Rattle.rbu_value.specs.OrderLaws.{value_cmp-total, value_cmp-same}
use Rattle.common_spec.specs.ReadingLaws.{IsOne}
use Rattle.schema_spec.specs.declared.schema.Index.{Index}
use Rattle.database_spec.specs.Rows.{TableRow}
use Rattle.database_spec.specs.Keys.{column_cmp, columns_cmp, order_of, last_value, entry_cmp, IsBefore, entry_of, IsProjection}
use Rattle.database_spec.specs.ListsLaws.{order-one}

-- an order by two keys, turned round
pub reverse-then : (o p : Ordering) → ordering_reverse (ordering_then o p) ≡ ordering_then (ordering_reverse o) (ordering_reverse p)
reverse-then Less p = refl
reverse-then Equal p = refl
reverse-then Greater p = refl

column-reverse : (collation : Collation) (descends : Bool) (a b : Value) → column_cmp (collation, descends) a b ≡ ordering_reverse (column_cmp (collation, descends) b a)
column-reverse collation true a b = ap ordering_reverse ((value_cmp-total collation).antisymm a b)
column-reverse collation false a b = (value_cmp-total collation).antisymm a b

-- two keys turned round compare the other way
pub columns-reverse : (columns : List (Collation × Bool)) (a b : List Value) → columns_cmp columns a b ≡ ordering_reverse (columns_cmp columns b a)
columns-reverse [] a b = refl
columns-reverse (column ∷ columns) [] [] = refl
columns-reverse (column ∷ columns) [] (y ∷ b) = refl
columns-reverse (column ∷ columns) (x ∷ a) [] = refl
columns-reverse (column ∷ columns) (x ∷ a) (y ∷ b) =
    ap₂ ordering_then (column-reverse column.0 column.1 x y) (columns-reverse columns a b) ∙ sym (reverse-then (column_cmp column y x) (columns_cmp columns b a))

pub entry-reverse : (columns : List (Collation × Bool)) (a b : List Value) → entry_cmp columns a b ≡ ordering_reverse (entry_cmp columns b a)
entry-reverse columns a b =
    ap₂ ordering_then (columns-reverse columns a b) ((value_cmp-total Binary).antisymm (last_value columns a) (last_value columns b))
    ∙ sym (reverse-then (columns_cmp columns b a) (value_cmp Binary (last_value columns b) (last_value columns a)))

-- of two entries not each stands before the other
pub before-apart : (index : Index) (a b : List Value) → IsBefore index a b → IsBefore index b a → ⊥
before-apart index a b p q =
    let turned : Less ≡ Greater = sym p ∙ entry-reverse (order_of index) a b ∙ ap ordering_reverse q in let h : ⊥ = cc in h

-- a table has one projection for an index
pub projection-one : (index : Index) (rows : List TableRow) → IsOne (IsProjection index rows)
projection-one index rows a b p q = order-one (IsBefore index) (before-apart index) (map (entry_of index) rows) a b (p.all, p.sorted) (q.all, q.sorted)

tie-only : (o : Ordering) → (o ≢ Less) → (ordering_reverse o ≢ Less) → o ≡ Equal
tie-only Less p q = absurd (p refl)
tie-only Equal p q = refl
tie-only Greater p q = absurd (q refl)

then-equal : (o p : Ordering) → ordering_then o p ≡ Equal → p ≡ Equal
then-equal Less p e = let h : ⊥ = cc in absurd h
then-equal Equal p e = e
then-equal Greater p e = let h : ⊥ = cc in absurd h

-- entries of which neither stands before the other have one rowid
pub tied-rowid : (index : Index) (a b : List Value) (m n : ℤ) → (¬ IsBefore index a b) → (¬ IsBefore index b a)
    → last_value (order_of index) a ≡ Int m → last_value (order_of index) b ≡ Int n → m ≡ n
tied-rowid index a b m n p q x y =
    let order = order_of index in
    let tie = tie-only (entry_cmp order a b) p (λ e. q (entry-reverse order b a ∙ e)) in
    let same = value_cmp-same (last_value order a) (last_value order b) (then-equal (columns_cmp order a b) (value_cmp Binary (last_value order a) (last_value order b)) tie) in
    let both : Int m ≡ Int n = sym x ∙ same ∙ y in cc
