-- Clauses in their order, as a loop goes through them.
use Rattle.std.proofs.Common.{◌≡◌, ◌<◌, ℕ, suc, List, [], ◌∷◌, refl, subst, inl, inr, arith}
use Rattle.std.proofs.lemmas.Bool.{cases_lt}
use Rattle.common_spec.specs.Reading.{IsFirst}
use Rattle.schema_spec.specs.declared.schema.Clause.{Clause}
use Rattle.schema_spec.specs.declared.schema.Clause.TheVariants.{Without, Strict, Generated, As, On, Desc, Collate, Real, Unique, Primary, Where, Expression, Virtual, View}
use Rattle.schema_spec.specs.Causes.{clause_order}
use Rattle.schema_spec.specs.TextsLaws.{order-same}

-- the clauses from this place of the order on
abbrev pub FollowFrom : ℕ → List Clause → Type 0
FollowFrom n [] = n ≡ 14
FollowFrom n (clause ∷ rest) = (clause_order clause ≡ n) × FollowFrom (suc n) rest

-- no clause before this place of the order has F
abbrev pub NoneBefore : (Clause → Type 0) → ℕ → Type 0
NoneBefore F n = (clause : Clause) → clause_order clause < n → ¬ F clause

-- the clauses that are left are those from some place on, and none before it has F
pub record IsCounted (F : Clause → Type 0) (left : List Clause) : Type 0 where
  pub place : ℕ
  pub follow : FollowFrom place left
  pub none : NoneBefore F place

pub counted-all : (F : Clause → Type 0) → IsCounted F (Without ∷ Strict ∷ Generated ∷ As ∷ On ∷ Desc ∷ Collate ∷ Real ∷ Unique ∷ Primary ∷ Where ∷ Expression ∷ Virtual ∷ View ∷ [])
counted-all F = record {
  place = 0;
  follow = (refl, (refl, (refl, (refl, (refl, (refl, (refl, (refl, (refl, (refl, (refl, (refl, (refl, (refl, refl))))))))))))));
  none = λ clause less h. absurd (omega (arith, less));
}

pub counted-next : (F : Clause → Type 0) (clause : Clause) (rest : List Clause) → ¬ F clause → IsCounted F (clause ∷ rest) → IsCounted F rest
counted-next F clause rest not_here h = record { place = suc h.place; follow = h.follow.1; none = none }
  where
    none : NoneBefore F (suc h.place)
    none other less f =
        elim (cases_lt (clause_order other) h.place) [
          | inl before ↦ h.none other before f
          | inr not_before ↦ not_here (subst F (order-same other clause (let e = h.follow.0 in omega (arith, less, not_before, e))) f)
        ]

pub counted-first : (F : Clause → Type 0) (clause : Clause) (rest : List Clause) → F clause → IsCounted F (clause ∷ rest) → IsFirst clause_order F clause
counted-first F clause rest f h = record { holds = f; first = λ other less. h.none other (let e = h.follow.0 in omega (arith, less, e)) }

small : (clause : Clause) → clause_order clause < 14
small Without = omega arith
small Strict = omega arith
small Generated = omega arith
small As = omega arith
small On = omega arith
small Desc = omega arith
small Collate = omega arith
small Real = omega arith
small Unique = omega arith
small Primary = omega arith
small Where = omega arith
small Expression = omega arith
small Virtual = omega arith
small View = omega arith

pub counted-none : (F : Clause → Type 0) → IsCounted F [] → (clause : Clause) → ¬ F clause
counted-none F h clause = h.none clause (let s = small clause in let e = h.follow in omega (arith, s, e))

-- no clause has F where none up to the last place has
pub none-at_all : (F : Clause → Type 0) → NoneBefore F 14 → (clause : Clause) → ¬ F clause
none-at_all F none clause = none clause (small clause)
