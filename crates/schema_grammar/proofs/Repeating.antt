-- What a loop over things that stand one behind the other has read, and what is left for it.
use Rattle.std.proofs.Common.{◌≡◌, ◌≤◌, ◌<◌, ℕ, zero, suc, Bool, true, false, List, [], ◌∷◌, ◌++◌, length, refl, sym, ap, ◌∙◌, append_assoc, append-nil, arith}
use Rattle.schema_spec.specs.declared.token.Token.{Token}
use Rattle.schema_spec.specs.declared.schema.SqlFault.{SqlFault}
use Rattle.schema_spec.specs.declared.schema.SqlFault.TheVariants.{SqlSyntax, OutsideProfile, Memory}
use Rattle.schema_spec.specs.Fronts.{Front, Behind, Stops, ◌>>=◌, at_most, many}
use Rattle.schema_grammar.specs.Parses.{StopsBy}

-- things that were read, before those at the front
abbrev pub prepend : {A : Type 0} → List A → Front (List A) → Front (List A)
prepend made (Behind others rest) = Behind (made ++ others) rest
prepend made (Stops at) = Stops at

-- what was read goes on with what is left: at most so many things, which are enough
abbrev pub Continues : {A : Type 0} → (List Token → Bool) → (List Token → Front A) → List Token → List A → List Token → Type 0
Continues test item all made left = (n : ℕ) × (length left ≤ n) × (many test item all ≡ prepend made (at_most n test item left))

-- the things that were read are put behind those that were there
abbrev pub HasRead : {A : Type 0} → (List Token → Bool) → (List Token → Front A) → List Token → List A → List A → List Token → Type 0
HasRead {A} test item all before items left = (made : List A) × (items ≡ before ++ made) × Continues test item all made left

prepend-none : {A : Type 0} (front : Front (List A)) → front ≡ prepend [] front
prepend-none (Behind others rest) = refl
prepend-none (Stops at) = refl

prepend-one : {A : Type 0} (made : List A) (a : A) (front : Front (List A))
    → prepend made (front >>= λ others rest. Behind (a ∷ others) rest) ≡ prepend (made ++ (a ∷ [])) front
prepend-one made a (Behind others rest) = ap (λ all. Behind all rest) (sym (append_assoc made (a ∷ []) others))
prepend-one made a (Stops at) = refl

-- one thing, and at most so many behind it
abbrev one_more : {A : Type 0} → ℕ → (List Token → Bool) → (List Token → Front A) → Front A → Front (List A)
one_more n test item front = front >>= λ a rest. at_most n test item rest >>= λ others behind. Behind (a ∷ others) behind

at_most-begins : {A : Type 0} (n : ℕ) (test : List Token → Bool) (item : List Token → Front A) (left : List Token) → test left ≡ true
    → at_most (suc n) test item left ≡ one_more n test item (item left)
at_most-begins {A} n test item left e = ap (λ t. elim t as (λ _. Front (List A)) [ true ↦ one_more n test item (item left) | false ↦ Behind [] left ]) e

at_most-none : {A : Type 0} (n : ℕ) (test : List Token → Bool) (item : List Token → Front A) (left : List Token) → test left ≡ false
    → at_most n test item left ≡ Behind [] left
at_most-none zero test item left e = refl
at_most-none {A} (suc n) test item left e = ap (λ t. elim t as (λ _. Front (List A)) [ true ↦ one_more n test item (item left) | false ↦ Behind [] left ]) e

-- where one begins, some token is left
left-some : (test : List Token → Bool) (left : List Token) → test [] ≡ false → test left ≡ true → 0 < length left
left-some test [] none e = let same : ◌≡◌ {A = Bool} true false = sym e ∙ none in absurd (cc)
left-some test (token ∷ left) none e = omega arith

pub read-none : {A : Type 0} (test : List Token → Bool) (item : List Token → Front A) (all : List Token) (before items : List A) → items ≡ before → HasRead test item all before items all
read-none test item all before items same = ([], same ∙ sym (append-nil before), (length all, omega arith, prepend-none (many test item all)))

pub read-more : {A : Type 0} (test : List Token → Bool) (item : List Token → Front A) (all : List Token) (before items more : List A) (a : A) (left rest : List Token)
    → test left ≡ true → item left ≡ Behind a rest → length rest < length left → more ≡ items ++ (a ∷ []) → HasRead test item all before items left → HasRead test item all before more rest
read-more {A} test item all before items more a left rest e f s m h =
    (h.0 ++ (a ∷ []), m ∙ ap (λ x. x ++ (a ∷ [])) h.1 ∙ append_assoc before h.0 (a ∷ []), at h.2.0 h.2.1 h.2.2)
  where
    at : (n : ℕ) → length left ≤ n → many test item all ≡ prepend h.0 (at_most n test item left) → Continues test item all (h.0 ++ (a ∷ [])) rest
    at zero g k = absurd (omega (arith, g, s))
    at (suc n) g k =
        (n, omega (arith, g, s), k ∙ ap (prepend h.0) (at_most-begins n test item left e ∙ ap (one_more n test item) f) ∙ prepend-one h.0 a (at_most n test item rest))

pub read-all : {A : Type 0} (test : List Token → Bool) (item : List Token → Front A) (all : List Token) (before items : List A) (left : List Token)
    → test left ≡ false → HasRead test item all before items left → (made : List A) × (items ≡ before ++ made) × (many test item all ≡ Behind made left)
read-all test item all before items left e h =
    (h.0, h.1, h.2.2 ∙ ap (prepend h.0) (at_most-none h.2.0 test item left e) ∙ ap (λ made. Behind made left) (append-nil h.0))

read-stops : {A : Type 0} (test : List Token → Bool) (item : List Token → Front A) (all : List Token) (before items : List A) (left at : List Token)
    → test [] ≡ false → test left ≡ true → item left ≡ Stops at → HasRead test item all before items left → many test item all ≡ Stops at
read-stops {A} test item all before items left at none e f h = stops h.2.0 h.2.1 h.2.2
  where
    stops : (n : ℕ) → length left ≤ n → many test item all ≡ prepend h.0 (at_most n test item left) → many test item all ≡ Stops at
    stops zero g k = absurd (let some = left-some test left none e in omega (arith, g, some))
    stops (suc n) g k = k ∙ ap (prepend h.0) (at_most-begins n test item left e ∙ ap (one_more n test item) f)

pub read-fault : {A : Type 0} (text : List ℕ) (test : List Token → Bool) (item : List Token → Front A) (all : List Token) (before items : List A) (left : List Token) (fault : SqlFault)
    → test [] ≡ false → test left ≡ true → StopsBy text (item left) fault → HasRead test item all before items left → StopsBy text (many test item all) fault
read-fault text test item all before items left (SqlSyntax offset) none e f h = (f.0, read-stops test item all before items left f.0 none e f.1 h, f.2)
read-fault text test item all before items left (OutsideProfile clause) none e f h = f
read-fault text test item all before items left (Memory error) none e f h = tt
