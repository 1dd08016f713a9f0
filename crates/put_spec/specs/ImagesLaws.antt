-- A list whose image is known: in parts, by its first item, or empty.
use Rattle.std.proofs.Common.{◌≡◌, List, [], ◌∷◌, ◌++◌, length, map, refl, ap, arith}

-- a list whose image is in two parts
pub record IsSplit {A B : Type 0} (f : A → B) (xs : List A) (ys zs : List B) : Type 0 where
  pub front : List A
  pub back : List A
  pub whole : xs ≡ front ++ back
  pub one : map f front ≡ ys
  pub two : map f back ≡ zs

pub split-map : {A B : Type 0} (f : A → B) (xs : List A) (ys zs : List B) → map f xs ≡ ys ++ zs → IsSplit f xs ys zs
split-map f xs [] zs e = record { front = []; back = xs; whole = refl; one = refl; two = e }
split-map f [] (y ∷ ys) zs e = absurd (let h : ⊥ = cc in h)
split-map f (x ∷ xs) (y ∷ ys) zs e =
    let first : f x ≡ y = cc in
    let after : map f xs ≡ ys ++ zs = cc in
    let rest = split-map f xs ys zs after in
    record { front = x ∷ rest.front; back = rest.back; whole = ap (λ l. x ∷ l) rest.whole; one = cc (first, rest.one); two = rest.two }

-- a list whose image has a first item
pub record HasFirst {A B : Type 0} (f : A → B) (xs : List A) (y : B) (ys : List B) : Type 0 where
  pub first : A
  pub after : List A
  pub whole : xs ≡ first ∷ after
  pub one : f first ≡ y
  pub rest : map f after ≡ ys

pub first-map : {A B : Type 0} (f : A → B) (xs : List A) (y : B) (ys : List B) → map f xs ≡ y ∷ ys → HasFirst f xs y ys
first-map f [] y ys e = absurd (let h : ⊥ = cc in h)
first-map f (x ∷ xs) y ys e = record { first = x; after = xs; whole = refl; one = cc; rest = cc }

pub none-map : {A B : Type 0} (f : A → B) (xs : List A) → map f xs ≡ [] → xs ≡ []
none-map f [] e = refl
none-map f (x ∷ xs) e = absurd (let h : ⊥ = cc in h)

pub map-append : {A B : Type 0} (f : A → B) (xs ys : List A) → map f (xs ++ ys) ≡ map f xs ++ map f ys
map-append f [] ys = refl
map-append f (x ∷ xs) ys = ap (λ l. f x ∷ l) (map-append f xs ys)

pub map-map : {A B C : Type 0} (g : B → C) (f : A → B) (xs : List A) → map g (map f xs) ≡ map (λ x. g (f x)) xs
map-map g f [] = refl
map-map g f (x ∷ xs) = ap (λ l. g (f x) ∷ l) (map-map g f xs)

pub length-of : {A B : Type 0} (f : A → B) (xs : List A) → length (map f xs) ≡ length xs
length-of f [] = refl
length-of f (x ∷ xs) = omega (arith, length-of f xs)
