-- The order of values is total up to the collation's equality, and values equal under BINARY are the same.
use Rattle.std.specs.Prelude.{◌≡◌, ℕ, ℤ, List, refl}
use Rattle.std.proofs.Common.{sym, ap, ◌∙◌}
use Rattle.std.specs.Ordering.{nat_cmp, int_cmp, is_eq, ordering_then}
use Rattle.std.specs.declared.cmp.Ordering.{Ordering}
use Rattle.std.specs.declared.cmp.Ordering.TheVariants.{Less, Equal, Greater}
use Rattle.std.specs.Cmp.{IsTotalOrder, on_total, then_total, nat_cmp_total, int_cmp_total, tied_itself, signed_Decides}
use Rattle.std.specs.Cmp.Lexicographic.{slice_cmp, nat_list_cmp_total, texts_ties, bytes_decides}
use Rattle.rbu_value.specs.declared.value.Value.{Value}
use Rattle.rbu_value.specs.declared.value.Value.TheVariants.{Null, Int, Text, Blob}
use Rattle.rbu_value.specs.declared.order.Collation.{Collation}
use Rattle.rbu_value.specs.declared.order.Collation.TheVariants.{Binary}
use Rattle.rbu_value.specs.Order.{class_place, integer_key, bytes_key, collated, value_cmp}

-- the answers of two values turned round are each other's reverse, and what is less or equal chains
pub value_cmp-total : (collation : Collation) → IsTotalOrder (value_cmp collation)
unfolding value_cmp
value_cmp-total collation =
    then_total (on_total class_place nat_cmp_total) (then_total (on_total integer_key int_cmp_total) (on_total (bytes_key collation) nat_list_cmp_total))

-- a value is equal to itself
pub value_cmp-itself : (collation : Collation) (a : Value) → value_cmp collation a a ≡ Equal
value_cmp-itself collation a = tied_itself (value_cmp-total collation) a

then_last : (r : Ordering) → ordering_then r Equal ≡ r
then_last Less = refl
then_last Equal = refl
then_last Greater = refl

-- integers compare by value under every collation
pub value_cmp-integers : (collation : Collation) (x y : ℤ) → value_cmp collation (Int x) (Int y) ≡ int_cmp x y
unfolding value_cmp
value_cmp-integers collation x y = then_last (int_cmp x y)

-- texts compare by what the collation makes of their bytes
pub value_cmp-texts : (collation : Collation) (x y : List ℕ) → value_cmp collation (Text x) (Text y) ≡ slice_cmp nat_cmp (collated collation x) (collated collation y)
unfolding value_cmp
value_cmp-texts collation x y = refl

-- blobs compare by their bytes under every collation
pub value_cmp-blobs : (collation : Collation) (x y : List ℕ) → value_cmp collation (Blob x) (Blob y) ≡ slice_cmp nat_cmp x y
unfolding value_cmp
value_cmp-blobs collation x y = refl

-- no order of bytes makes two lists of bytes equal that differ
pub bytes-equal : (xs ys : List ℕ) → slice_cmp nat_cmp xs ys ≡ Equal → xs ≡ ys
bytes-equal xs ys e = (bytes_decides xs ys).0 (texts_ties xs ys ∙ ap is_eq e)

-- values that are equal under BINARY are the same
pub value_cmp-same : (a b : Value) → value_cmp Binary a b ≡ Equal → a ≡ b
unfolding value_cmp
value_cmp-same Null Null e = refl
value_cmp-same Null (Int y) e = cc
value_cmp-same Null (Text y) e = cc
value_cmp-same Null (Blob y) e = cc
value_cmp-same (Int x) Null e = cc
value_cmp-same (Int x) (Int y) e = ap Int ((signed_Decides x y).0 (ap is_eq (sym (then_last (int_cmp x y)) ∙ e)))
value_cmp-same (Int x) (Text y) e = cc
value_cmp-same (Int x) (Blob y) e = cc
value_cmp-same (Text x) Null e = cc
value_cmp-same (Text x) (Int y) e = cc
value_cmp-same (Text x) (Text y) e = ap Text (bytes-equal x y e)
value_cmp-same (Text x) (Blob y) e = cc
value_cmp-same (Blob x) Null e = cc
value_cmp-same (Blob x) (Int y) e = cc
value_cmp-same (Blob x) (Text y) e = cc
value_cmp-same (Blob x) (Blob y) e = ap Blob (bytes-equal x y e)
