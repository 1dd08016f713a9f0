use Rattle.std.proofs.Common.{◌≡◌, ◌≢◌, ℕ, zero, suc, pos, ◌<◌, ◌⊎◌, Bool, true, false, List, [], ◌∷◌, length, map, Some, None, refl, sym, ap, ◌∙◌, subst, inl, inr, arith}
use Rattle.std.proofs.Math.Path.{subst⁻¹}
use Rattle.std.specs.Prelude.{Contains}
use Rattle.std.specs.declared.cmp.Ordering.{Ordering}
use Rattle.std.specs.declared.cmp.Ordering.TheVariants.{Less, Equal, Greater}
use Rattle.rbu_value.specs.declared.value.Value.{Value}
use Rattle.rbu_value.specs.declared.value.Value.TheVariants.{Null, Int}
use Rattle.rbu_value.specs.Order.{value_cmp, integer_key}
use Rattle.format_spec.specs.Record.{magnitude}
use Rattle.database_spec.specs.Keys.{columns_cmp, order_of, has_null, IsBefore, Clash}
use Rattle.database_spec.specs.KeysLaws.{before-apart}
use Rattle.database_spec.specs.LittleTarget.{target_index, target_rows, target_entries}
use Rattle.prepared_spec.specs.StepFaults.{entries_of, IsLeastClash, IsAlike, IsAtFault, AddsClash}
use Rattle.prepared_spec.specs.LittleUpdate.{little_entry, clash_rows}
use Rattle.prepared_spec.proofs.worked.worked_clash.Goals as goal

abbrev all : List (List Value)
all = entries_of target_index clash_rows

abbrev Agree : List Value → List Value → Type 0
Agree a b = columns_cmp (order_of target_index) a b ≡ Equal

unequal : (o : Ordering) → o ≡ Equal → (o ≡ Less) ⊎ (o ≡ Greater) → ⊥
unequal o e (inl f) = let h : ◌≡◌ {A = Ordering} Less Equal = sym f ∙ e in let no : ⊥ = cc in no
unequal o e (inr f) = let h : ◌≡◌ {A = Ordering} Greater Equal = sym f ∙ e in let no : ⊥ = cc in no

not_less : (o : Ordering) → o ≡ Less → (o ≡ Equal) ⊎ (o ≡ Greater) → ⊥
not_less o e (inl f) = let h : ◌≡◌ {A = Ordering} Equal Less = sym f ∙ e in let no : ⊥ = cc in no
not_less o e (inr f) = let h : ◌≡◌ {A = Ordering} Greater Less = sym f ∙ e in let no : ⊥ = cc in no

abbrev first_of : List Value → ℕ
first_of [] = 0
first_of (value ∷ entry) = magnitude (integer_key value)

abbrev second_of : List Value → ℕ
second_of [] = 0
second_of (value ∷ []) = 0
second_of (value ∷ other ∷ entry) = magnitude (integer_key other)

-- two facts about given entries, of entries that are these
moved : (R : List Value → List Value → Type 0) (x y a b : List Value) → x ≡ a → y ≡ b → R a b → R x y
moved R x y a b e f h = subst⁻¹ (λ v. R v y) e (subst⁻¹ (R a) f h)

-- an entry below 77 agrees with no other
alone : (a b : List Value) → Contains all a → Contains all b → Agree a b → columns_cmp (order_of target_index) a (little_entry 77 6) ≡ Less → has_null target_index a ≡ false → a ≡ b
unfolding value_cmp
alone a b (zero, less, e) (zero, more, f) agree below some = sym e ∙ f
alone a b (zero, less, e) (suc zero, more, f) agree below some = absurd (unequal _ (moved Agree (little_entry 10 1) (little_entry 20 2) a b e f agree) (inl refl))
alone a b (zero, less, e) (suc (suc zero), more, f) agree below some = absurd (unequal _ (moved Agree (little_entry 10 1) (little_entry 30 3) a b e f agree) (inl refl))
alone a b (zero, less, e) (suc (suc (suc zero)), more, f) agree below some = absurd (unequal _ (moved Agree (little_entry 10 1) (little_entry 77 5) a b e f agree) (inl refl))
alone a b (zero, less, e) (suc (suc (suc (suc zero))), more, f) agree below some = absurd (unequal _ (moved Agree (little_entry 10 1) (little_entry 77 6) a b e f agree) (inl refl))
alone a b (zero, less, e) (suc (suc (suc (suc (suc zero)))), more, f) agree below some = absurd (unequal _ (moved Agree (little_entry 10 1) (Null ∷ Int (pos 7) ∷ []) a b e f agree) (inr refl))
alone a b (zero, less, e) (suc (suc (suc (suc (suc (suc zero))))), more, f) agree below some = absurd (unequal _ (moved Agree (little_entry 10 1) (Null ∷ Int (pos 8) ∷ []) a b e f agree) (inr refl))
alone a b (zero, less, e) (suc (suc (suc (suc (suc (suc (suc k)))))), more, f) agree below some = absurd (omega (arith, more))
alone a b (suc zero, less, e) (zero, more, f) agree below some = absurd (unequal _ (moved Agree (little_entry 20 2) (little_entry 10 1) a b e f agree) (inr refl))
alone a b (suc zero, less, e) (suc zero, more, f) agree below some = sym e ∙ f
alone a b (suc zero, less, e) (suc (suc zero), more, f) agree below some = absurd (unequal _ (moved Agree (little_entry 20 2) (little_entry 30 3) a b e f agree) (inl refl))
alone a b (suc zero, less, e) (suc (suc (suc zero)), more, f) agree below some = absurd (unequal _ (moved Agree (little_entry 20 2) (little_entry 77 5) a b e f agree) (inl refl))
alone a b (suc zero, less, e) (suc (suc (suc (suc zero))), more, f) agree below some = absurd (unequal _ (moved Agree (little_entry 20 2) (little_entry 77 6) a b e f agree) (inl refl))
alone a b (suc zero, less, e) (suc (suc (suc (suc (suc zero)))), more, f) agree below some = absurd (unequal _ (moved Agree (little_entry 20 2) (Null ∷ Int (pos 7) ∷ []) a b e f agree) (inr refl))
alone a b (suc zero, less, e) (suc (suc (suc (suc (suc (suc zero))))), more, f) agree below some = absurd (unequal _ (moved Agree (little_entry 20 2) (Null ∷ Int (pos 8) ∷ []) a b e f agree) (inr refl))
alone a b (suc zero, less, e) (suc (suc (suc (suc (suc (suc (suc k)))))), more, f) agree below some = absurd (omega (arith, more))
alone a b (suc (suc zero), less, e) (zero, more, f) agree below some = absurd (unequal _ (moved Agree (little_entry 30 3) (little_entry 10 1) a b e f agree) (inr refl))
alone a b (suc (suc zero), less, e) (suc zero, more, f) agree below some = absurd (unequal _ (moved Agree (little_entry 30 3) (little_entry 20 2) a b e f agree) (inr refl))
alone a b (suc (suc zero), less, e) (suc (suc zero), more, f) agree below some = sym e ∙ f
alone a b (suc (suc zero), less, e) (suc (suc (suc zero)), more, f) agree below some = absurd (unequal _ (moved Agree (little_entry 30 3) (little_entry 77 5) a b e f agree) (inl refl))
alone a b (suc (suc zero), less, e) (suc (suc (suc (suc zero))), more, f) agree below some = absurd (unequal _ (moved Agree (little_entry 30 3) (little_entry 77 6) a b e f agree) (inl refl))
alone a b (suc (suc zero), less, e) (suc (suc (suc (suc (suc zero)))), more, f) agree below some = absurd (unequal _ (moved Agree (little_entry 30 3) (Null ∷ Int (pos 7) ∷ []) a b e f agree) (inr refl))
alone a b (suc (suc zero), less, e) (suc (suc (suc (suc (suc (suc zero))))), more, f) agree below some = absurd (unequal _ (moved Agree (little_entry 30 3) (Null ∷ Int (pos 8) ∷ []) a b e f agree) (inr refl))
alone a b (suc (suc zero), less, e) (suc (suc (suc (suc (suc (suc (suc k)))))), more, f) agree below some = absurd (omega (arith, more))
alone a b (suc (suc (suc zero)), less, e) has agree below some = absurd (not_less _ (moved (λ x y. columns_cmp (order_of target_index) x y ≡ Less) (little_entry 77 5) (little_entry 77 6) a (little_entry 77 6) e refl below) (inl refl))
alone a b (suc (suc (suc (suc zero))), less, e) has agree below some = absurd (not_less _ (moved (λ x y. columns_cmp (order_of target_index) x y ≡ Less) (little_entry 77 6) (little_entry 77 6) a (little_entry 77 6) e refl below) (inl refl))
alone a b (suc (suc (suc (suc (suc zero)))), less, e) has agree below some = absurd (let h : ◌≡◌ {A = Bool} true false = subst⁻¹ (λ x. has_null target_index x ≡ false) e some in let no : ⊥ = cc in no)
alone a b (suc (suc (suc (suc (suc (suc zero))))), less, e) has agree below some = absurd (let h : ◌≡◌ {A = Bool} true false = subst⁻¹ (λ x. has_null target_index x ≡ false) e some in let no : ⊥ = cc in no)
alone a b (suc (suc (suc (suc (suc (suc (suc k)))))), less, e) has agree below some = absurd (omega (arith, less))

-- what agrees with 77 is one of two
with_77 : (rowid : ℕ) (other : List Value) → Contains all other → Agree (little_entry 77 rowid) other → (other ≡ little_entry 77 5) ⊎ (other ≡ little_entry 77 6)
unfolding value_cmp
with_77 rowid other (zero, more, f) agree = absurd (unequal _ (subst⁻¹ (Agree (little_entry 77 rowid)) f agree) (inr refl))
with_77 rowid other (suc zero, more, f) agree = absurd (unequal _ (subst⁻¹ (Agree (little_entry 77 rowid)) f agree) (inr refl))
with_77 rowid other (suc (suc zero), more, f) agree = absurd (unequal _ (subst⁻¹ (Agree (little_entry 77 rowid)) f agree) (inr refl))
with_77 rowid other (suc (suc (suc zero)), more, f) agree = inl (sym f)
with_77 rowid other (suc (suc (suc (suc zero))), more, f) agree = inr (sym f)
with_77 rowid other (suc (suc (suc (suc (suc zero)))), more, f) agree = absurd (unequal _ (subst⁻¹ (Agree (little_entry 77 rowid)) f agree) (inr refl))
with_77 rowid other (suc (suc (suc (suc (suc (suc zero))))), more, f) agree = absurd (unequal _ (subst⁻¹ (Agree (little_entry 77 rowid)) f agree) (inr refl))
with_77 rowid other (suc (suc (suc (suc (suc (suc (suc k)))))), more, f) agree = absurd (omega (arith, more))

-- and stood not before
not_old : (rowid : ℕ) → ¬ Contains (entries_of target_index target_rows) (little_entry 77 rowid)
not_old rowid (zero, less, e) = omega (arith, ap first_of e)
not_old rowid (suc zero, less, e) = omega (arith, ap first_of e)
not_old rowid (suc (suc zero), less, e) = omega (arith, ap first_of e)
not_old rowid (suc (suc (suc k)), less, e) = omega (arith, less)

never_old : (rowid : ℕ) (other : List Value) → IsAlike target_index clash_rows (little_entry 77 rowid) other → ¬ Contains (entries_of target_index target_rows) other
never_old rowid other alike stood =
    elim (with_77 rowid other alike.0 alike.1) [
      | inl e ↦ not_old 5 (subst (Contains (entries_of target_index target_rows)) e stood)
      | inr e ↦ not_old 6 (subst (Contains (entries_of target_index target_rows)) e stood)
    ]

least : IsLeastClash target_index clash_rows (little_entry 77 6) (little_entry 77 5)
unfolding value_cmp
least = record {
  entry_stands = (4, omega arith, refl);
  other_stands = (3, omega arith, refl);
  differ = λ e. omega (arith, ap second_of e);
  clash = (refl, refl, refl);
  least = λ a b p q differ clash below. differ (alone a b p q clash.0 below clash.1);
}

before_self : (entry : List Value) → IsBefore target_index entry entry → ⊥
before_self entry less = before-apart target_index entry entry less less

at_second : IsAtFault target_index target_rows clash_rows (little_entry 77 6)
unfolding value_cmp
at_second = inr (
  never_old 6,
  (
    little_entry 77 5,
    ((3, omega arith, refl), refl),
    refl,
    λ other alike less. elim (with_77 6 other alike.0 alike.1) [ inl e ↦ e | inr e ↦ absurd (before_self (little_entry 77 6) (subst (λ x. IsBefore target_index x (little_entry 77 6)) e less)) ],
  ),
)

not_first : ¬ IsAtFault target_index target_rows clash_rows (little_entry 77 5)
unfolding value_cmp
not_first (inl ((kept, alike, stood), unstood, rest)) = never_old 5 kept alike stood
not_first (inr (none, (one, alike, less, only))) =
    elim (with_77 5 one alike.0 alike.1) [
      | inl e ↦ before_self (little_entry 77 5) (subst (λ x. IsBefore target_index x (little_entry 77 5)) e less)
      | inr e ↦ not_less _ (subst (λ x. IsBefore target_index x (little_entry 77 5)) e less) (inr refl)
    ]

pub returns-clause-second : goal.returns-clause-second
returns-clause-second c = inl ((refl, (little_entry 77 5, least), at_second), refl)

pub returns-clause-first : goal.returns-clause-first
returns-clause-first c = inr ((λ clash. not_first clash.2), refl)

pub returns-clause-null : goal.returns-clause-null
returns-clause-null c = inr ((λ clash. let h : ◌≡◌ {A = Bool} true false = clash.1.1.clash.1 in let no : ⊥ = cc in no), refl)
