-- Lists.
use Rattle.std.proofs.Common.{◌≡◌, ◌≢◌, ◌<◌, List, [], ◌∷◌, ◌++◌, length, reverse, drop, refl, arith}
use Rattle.std.specs.List.{AllZip}
use Rattle.std.proofs.lemmas.List.{reverse-append}

-- a list with one more at its end, from the end
pub reverse-more : {A : Type 0} (xs : List A) (x : A) → reverse (xs ++ x ∷ []) ≡ x ∷ reverse xs
reverse-more xs x = reverse-append xs (x ∷ [])

pub not_empty : {A : Type 0} (xs : List A) → xs ≢ [] → 0 < length xs
not_empty [] some = absurd (some refl)
not_empty (x ∷ xs) some = omega arith

-- nothing is taken from nothing
pub none_popped : {A : Type 0} (old new : List A) → new ≡ old → (0 < length old → ⊥) → new ≡ []
none_popped [] new same none = same
none_popped (x ∷ old) new same none = absurd (none (omega arith))

-- two pairs of lists behind one another
pub zip-join : {A B : Type 0} (R : A → B → Type 0) (xs more : List A) (ys later : List B) → AllZip R xs ys → AllZip R more later → AllZip R (xs ++ more) (ys ++ later)
zip-join R [] more [] later front back = back
zip-join R [] more (y ∷ ys) later front back = absurd front
zip-join R (x ∷ xs) more [] later front back = absurd front
zip-join R (x ∷ xs) more (y ∷ ys) later front back = (front.0, zip-join R xs more ys later front.1 back)

-- both lists without their first
pub zip-behind : {A B : Type 0} (R : A → B → Type 0) (xs : List A) (ys : List B) → AllZip R xs ys → AllZip R (drop 1 xs) (drop 1 ys)
zip-behind R [] [] all = tt
zip-behind R [] (y ∷ ys) all = absurd all
zip-behind R (x ∷ xs) [] all = absurd all
zip-behind R (x ∷ xs) (y ∷ ys) all = all.1
