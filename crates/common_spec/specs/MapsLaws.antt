-- What a changed map has at each key, and how changes join: crates above cite these facts in their proofs.
use Rattle.std.specs.Prelude.{◌≡◌, ℕ, ◌==◌, Bool, true, false, if◌then◌else◌, refl}
use Rattle.std.proofs.Common.{sym, ap, ◌∙◌}
use Rattle.std.proofs.Math.Path.{fun_ext}
use Rattle.std.proofs.lemmas.Bool.{eqb-true, eq-eqb}
use Rattle.common_spec.specs.Maps.{IsEquality, set_at}

-- numbers that the test of equality finds equal
pub IsEquality-numbers : IsEquality (λ (x y : ℕ). x == y)
IsEquality-numbers = record { itself = λ x. eq-eqb x x refl; same = λ x y. eqb-true x y }

-- the later of two changes at one key counts
pub set_at-again : {K V : Type 0} (is : K → K → Bool) (map : K → V) (key : K) (a b : V) → set_at is (set_at is map key a) key b ≡ set_at is map key b
set_at-again {K} {V} is map key a b = fun_ext (λ other. again (is key other) (map other))
  where
    again : (c : Bool) (old : V) → (if c then b else (if c then a else old)) ≡ (if c then b else old)
    again true old = refl
    again false old = refl

-- a key that is given what it has changes nothing
pub set_at-same : {K V : Type 0} (is : K → K → Bool) (map : K → V) (key : K) (value : V) → IsEquality is → map key ≡ value → set_at is map key value ≡ map
set_at-same {K} {V} is map key value equality e = fun_ext (λ other. same other (is key other) (equality.same key other))
  where
    same : (other : K) (c : Bool) → (c ≡ true → key ≡ other) → (if c then value else map other) ≡ map other
    same other true one = sym e ∙ ap map (one refl)
    same other false one = refl

-- what stands at the key
pub set_at-itself : {K V : Type 0} (is : K → K → Bool) (map : K → V) (key : K) (value : V) → IsEquality is → set_at is map key value key ≡ value
set_at-itself {K} {V} is map key value equality = ap (λ (c : Bool). if c then value else map key) (equality.itself key)

-- what stands at another key
pub set_at-other : {K V : Type 0} (is : K → K → Bool) (map : K → V) (key other : K) (value : V) → is key other ≡ false → set_at is map key value other ≡ map other
set_at-other {K} {V} is map key other value apart = ap (λ (c : Bool). if c then value else map other) apart

-- changes at two keys may be swapped
pub set_at-swap : {K V : Type 0} (is : K → K → Bool) (map : K → V) (key other : K) (a b : V) → IsEquality is → is key other ≡ false
    → set_at is (set_at is map key a) other b ≡ set_at is (set_at is map other b) key a
set_at-swap {K} {V} is map key other a b equality apart =
    fun_ext (λ third. swap (is key third) (is other third) (map third)
    (λ first second.
    let one : key ≡ other = equality.same key third first ∙ sym (equality.same other third second) in
    let found : is key other ≡ true = ap (is key) (sym one) ∙ equality.itself key in
    absurd (cc)))
  where
    swap : (c d : Bool) (old : V) → (c ≡ true → d ≡ true → ⊥) → (if d then b else (if c then a else old)) ≡ (if c then a else (if d then b else old))
    swap true true old apart = absurd (apart refl refl)
    swap true false old apart = refl
    swap false d old apart = refl
