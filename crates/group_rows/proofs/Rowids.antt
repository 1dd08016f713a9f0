-- Rows and pairs by their rowids.
use Rattle.std.proofs.Common.{◌≡◌, ℤ, ◌||◌, Bool, true, false, List, [], ◌∷◌, Option, Some, None, cond, refl, ap, ap₂, ◌∙◌}
use Rattle.std.proofs.lemmas.Cmp.{int_cmp_total}
use Rattle.std.specs.List.{AllByRecursion}
use Rattle.std.specs.Option.{option_or}
use Rattle.std.specs.Ordering.{int_cmp, is_eq, ordering_reverse}
use Rattle.std.specs.declared.cmp.Ordering.{Ordering}
use Rattle.std.specs.declared.cmp.Ordering.TheVariants.{Less, Equal, Greater}
use Rattle.rbu_value.specs.declared.value.Value.{Value}
use Rattle.index_changes.specs.declared.pairs.OldNew.{OldNew}
use Rattle.group_rows.specs.Sides.{pair_at, row_at}

reversed-eq : (o : Ordering) → is_eq (ordering_reverse o) ≡ is_eq o
reversed-eq Less = refl
reversed-eq Equal = refl
reversed-eq Greater = refl

flips : (a b : ℤ) → is_eq (int_cmp a b) ≡ is_eq (int_cmp b a)
flips a b = ap is_eq (int_cmp_total.antisymm a b) ∙ reversed-eq (int_cmp b a)

or-moved : (a b c : Bool) → (b || cond a true c) ≡ ((a || b) || c)
or-moved true true c = refl
or-moved true false c = refl
or-moved false b c = refl

-- one rowid more is in a set
pub set-more : (rowid other : ℤ) (rest old new : Bool) → new ≡ cond (is_eq (int_cmp rowid other)) true old → (rest || new) ≡ ((is_eq (int_cmp other rowid) || rest) || old)
set-more rowid other rest old new e = ap (λ t. rest || t) (e ∙ ap (λ t. cond t true old) (flips rowid other)) ∙ or-moved (is_eq (int_cmp other rowid)) rest old

pub or-none : {A : Type 0} (o : Option A) → option_or o None ≡ o
or-none None = refl
or-none (Some x) = refl

-- one row more is in a map
pub row-more : {A : Type 0} (t : Bool) (row : A) (later old new : Option A) → new ≡ cond t (Some row) old → option_or later new ≡ option_or (option_or later (cond t (Some row) None)) old
row-more t row (Some x) old new e = refl
row-more true row None old new e = e
row-more false row None old new e = e

-- the rows of greater rowids stay
pub rows-left : {A : Type 0} (rowid : ℤ) (rest : List ℤ) (old new row : ℤ → Option A) → AllByRecursion (λ (z : ℤ). int_cmp rowid z ≡ Less) rest → AllByRecursion (λ (z : ℤ). old z ≡ row z) rest
    → ((z : ℤ) → new z ≡ cond (is_eq (int_cmp rowid z)) None (old z)) → AllByRecursion (λ (z : ℤ). new z ≡ row z) rest
rows-left rowid [] old new row less are takes = tt
rows-left rowid (z ∷ rest) old new row less are takes = (takes z ∙ ap (λ o. cond (is_eq o) None (old z)) less.0 ∙ are.0, rows-left rowid rest old new row less.1 are.1 takes)

pub pair-is : (old new : Option (ℤ × List Value)) (before behind : List (ℤ × List Value)) (rowid : ℤ) → old ≡ row_at before rowid → new ≡ row_at behind rowid → ◌≡◌ {A = OldNew} (record { old = old; new = new }) (pair_at before behind rowid)
pair-is old new before behind rowid e f = ap₂ (λ (o n : Option (ℤ × List Value)). record { old = o; new = n }) e f

pub or-false : (t : Bool) → (t || false) ≡ t
or-false true = refl
or-false false = refl
