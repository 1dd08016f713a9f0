-- Keys that end before the columns do.
use Rattle.std.proofs.Common.{◌≡◌, Bool, List, [], ◌∷◌, length, refl, arith}
use Rattle.std.specs.declared.cmp.Ordering.TheVariants.{Equal}
use Rattle.rbu_value.specs.declared.order.Collation.{Collation}
use Rattle.rbu_value.specs.declared.value.Value.{Value}
use Rattle.database_spec.specs.Keys.{columns_cmp}

-- keys of which one has no value compare as equal
pub columns_short : (columns : List (Collation × Bool)) (a b : List Value) → length a ≡ 0 → columns_cmp columns a b ≡ Equal
columns_short [] a b none = refl
columns_short (column ∷ columns) [] b none = refl
columns_short (column ∷ columns) (x ∷ a) b none = absurd (omega (arith, none))

pub columns_shorter : (columns : List (Collation × Bool)) (a b : List Value) → length b ≡ 0 → columns_cmp columns a b ≡ Equal
columns_shorter [] a b none = refl
columns_shorter (column ∷ columns) [] b none = refl
columns_shorter (column ∷ columns) (x ∷ a) [] none = refl
columns_shorter (column ∷ columns) (x ∷ a) (y ∷ b) none = absurd (omega (arith, none))
