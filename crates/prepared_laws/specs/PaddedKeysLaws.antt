-- Keys compare as they would if each had a value for each column, NULL where it lacks one; this order is total: crates above cite these facts in their proofs.
use Rattle.std.proofs.Common.{◌≡◌, ℕ, zero, suc, ◌+◌, ◌≤◌, Bool, true, false, List, [], ◌∷◌, length, refl, sym, ap, ◌∙◌, arith}
use Rattle.std.specs.Ordering.{ordering_then, ordering_reverse}
use Rattle.std.specs.declared.cmp.Ordering.{Ordering}
use Rattle.std.specs.declared.cmp.Ordering.TheVariants.{Less, Equal, Greater}
use Rattle.std.specs.Cmp.{IsTotalOrder, on_total, then_total}
use Rattle.rbu_value.specs.declared.order.Collation.{Collation}
use Rattle.rbu_value.specs.declared.value.Value.{Value}
use Rattle.rbu_value.specs.declared.value.Value.TheVariants.{Null}
use Rattle.rbu_value.specs.Order.{value_cmp}
use Rattle.rbu_value.specs.OrderLaws.{value_cmp-total}
use Rattle.database_spec.specs.Keys.{column_cmp, columns_cmp}

abbrev pub first_value : List Value → Value
first_value [] = Null
first_value (value ∷ values) = value

abbrev pub rest_values : List Value → List Value
rest_values [] = []
rest_values (value ∷ values) = values

abbrev pub padded_cmp : List (Collation × Bool) → List Value → List Value → Ordering
padded_cmp [] a b = Equal
padded_cmp (column ∷ columns) a b = ordering_then (column_cmp column (first_value a) (first_value b)) (padded_cmp columns (rest_values a) (rest_values b))

-- keys that are long enough compare so
pub padded-same : (columns : List (Collation × Bool)) (a b : List Value) → length columns ≤ length a → length columns ≤ length b → columns_cmp columns a b ≡ padded_cmp columns a b
padded-same [] a b long also = refl
padded-same (column ∷ columns) [] b long also = absurd (omega (arith, long))
padded-same (column ∷ columns) (x ∷ a) [] long also = absurd (omega (arith, also))
padded-same (column ∷ columns) (x ∷ a) (y ∷ b) long also = ap (ordering_then (column_cmp column x y)) (padded-same columns a b (omega (arith, long)) (omega (arith, also)))

twice : (o : Ordering) → ordering_reverse (ordering_reverse o) ≡ o
twice Less = refl
twice Equal = refl
twice Greater = refl

reversed-less : (o p : Ordering) → o ≡ ordering_reverse p → ordering_reverse o ≡ Less → p ≡ Less
reversed-less o p e r = sym (ap ordering_reverse e ∙ twice p) ∙ r

reversed-equal : (o : Ordering) → ordering_reverse o ≡ Equal → o ≡ Equal
reversed-equal Less e = absurd (let h : ◌≡◌ {A = Ordering} Greater Equal = e in let no : ⊥ = cc in no)
reversed-equal Equal e = refl
reversed-equal Greater e = absurd (let h : ◌≡◌ {A = Ordering} Less Equal = e in let no : ⊥ = cc in no)

-- an order the other way round
pub reversed-total : {K : Type 0} (R : K → K → Ordering) → IsTotalOrder R → IsTotalOrder (λ x y. ordering_reverse (R x y))
reversed-total R total = record {
  antisymm = λ x y. ap ordering_reverse (total.antisymm x y);
  trans = λ x y z less more.
      let back = total.trans z y x (reversed-less (R y z) (R z y) (total.antisymm y z) more) (reversed-less (R x y) (R y x) (total.antisymm x y) less) in
      ap ordering_reverse (total.antisymm x z ∙ ap ordering_reverse back);
  congr = λ x y z e. ap ordering_reverse (total.congr x y z (reversed-equal (R x y) e));
}

column-total : (column : Collation × Bool) → IsTotalOrder (column_cmp column)
column-total (collation, true) = reversed-total (value_cmp collation) (value_cmp-total collation)
column-total (collation, false) = value_cmp-total collation

equal-total : IsTotalOrder (λ (x y : List Value). Equal)
equal-total = record { antisymm = λ x y. refl; trans = λ x y z less more. less; congr = λ x y z e. refl }

pub padded-total : (columns : List (Collation × Bool)) → IsTotalOrder (padded_cmp columns)
padded-total [] = equal-total
padded-total (column ∷ columns) = then_total (on_total first_value (column-total column)) (on_total rest_values (padded-total columns))
