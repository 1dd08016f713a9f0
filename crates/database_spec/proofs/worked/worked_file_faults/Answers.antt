use Rattle.std.proofs.Common.{◌≡◌, ℕ, zero, suc, pos, ◌⊎◌, Bool, true, false, List, [], ◌∷◌, refl, sym, ap, ◌∙◌, subst, inl, inr, arith}
use Rattle.std.proofs.Math.Path.{subst⁻¹}
use Rattle.std.specs.Prelude.{Contains}
use Rattle.std.specs.declared.cmp.Ordering.{Ordering}
use Rattle.std.specs.declared.cmp.Ordering.TheVariants.{Less, Equal, Greater}
use Rattle.rbu_value.specs.declared.value.Value.{Value}
use Rattle.rbu_value.specs.declared.value.Value.TheVariants.{Int}
use Rattle.rbu_value.specs.Order.{value_cmp, integer_key}
use Rattle.format_spec.specs.Record.{magnitude}
use Rattle.database_spec.specs.Keys.{IsBefore}
use Rattle.database_spec.specs.FileFaults.{Disagrees}
use Rattle.database_spec.specs.LittleTarget.{target_index, target_rows, target_entries}
use Rattle.database_spec.specs.LittleTargetLaws.{entry_values, first_values}
use Rattle.database_spec.proofs.worked.worked_file_faults.Goals as goal

falsity : {A : Type 0} → ◌≡◌ {A = Bool} true false → A
falsity h = absurd (let no : ⊥ = cc in no)

pub returns-clause-root : goal.returns-clause-root
returns-clause-root c = inl ((λ is. falsity is.root.1), refl)

pub returns-clause-count : goal.returns-clause-count
returns-clause-count c = ((λ e. omega (arith, e)), refl)

pub returns-clause-twice : goal.returns-clause-twice
returns-clause-twice c = (refl, refl)

pub returns-clause-lost : goal.returns-clause-lost
returns-clause-lost c = (refl, refl)

pub returns-clause-free : goal.returns-clause-free
returns-clause-free c = refl

abbrev pair : ℕ → ℕ → List Value
pair c rowid = Int (pos c) ∷ Int (pos rowid) ∷ []

abbrev changed : List (List Value)
changed = pair 10 1 ∷ pair 21 2 ∷ pair 30 3 ∷ []

abbrev first_of : List Value → ℕ
first_of [] = 0
first_of (value ∷ entry) = magnitude (integer_key value)

not_less : (a b : List Value) (o : Ordering) → o ≡ Less → (o ≡ Equal) ⊎ (o ≡ Greater) → ⊥
not_less a b o e (inl f) = let h : ◌≡◌ {A = Ordering} Equal Less = sym f ∙ e in let no : ⊥ = cc in no
not_less a b o e (inr f) = let h : ◌≡◌ {A = Ordering} Greater Less = sym f ∙ e in let no : ⊥ = cc in no

not_equal : (o : Ordering) → o ≡ Equal → (o ≡ Less) ⊎ (o ≡ Greater) → ⊥
not_equal o e (inl f) = let h : ◌≡◌ {A = Ordering} Less Equal = sym f ∙ e in let no : ⊥ = cc in no
not_equal o e (inr f) = let h : ◌≡◌ {A = Ordering} Greater Equal = sym f ∙ e in let no : ⊥ = cc in no

-- of the entries that stand, only the first is before 20|2
stands_before : (entry : List Value) → Contains changed entry → IsBefore target_index entry (pair 20 2) → entry ≡ pair 10 1
unfolding value_cmp
stands_before entry (zero, less, e) before = sym e
stands_before entry (suc zero, less, e) before = absurd (not_less entry (pair 20 2) _ (subst⁻¹ (λ x. IsBefore target_index x (pair 20 2)) e before) (inr refl))
stands_before entry (suc (suc zero), less, e) before = absurd (not_less entry (pair 20 2) _ (subst⁻¹ (λ x. IsBefore target_index x (pair 20 2)) e before) (inr refl))
stands_before entry (suc (suc (suc k)), less, e) before = absurd (omega (arith, less))

projected_before : (entry : List Value) → Contains target_entries entry → IsBefore target_index entry (pair 20 2) → entry ≡ pair 10 1
unfolding value_cmp
projected_before entry (zero, less, e) before = sym e
projected_before entry (suc zero, less, e) before = absurd (not_less entry (pair 20 2) _ (subst⁻¹ (λ x. IsBefore target_index x (pair 20 2)) e before) (inl refl))
projected_before entry (suc (suc zero), less, e) before = absurd (not_less entry (pair 20 2) _ (subst⁻¹ (λ x. IsBefore target_index x (pair 20 2)) e before) (inr refl))
projected_before entry (suc (suc (suc k)), less, e) before = absurd (omega (arith, less))

-- nothing that stands is before the first entry
none_first : (entry : List Value) → Contains changed entry → IsBefore target_index entry (pair 10 1) → ⊥
unfolding value_cmp
none_first entry (zero, less, e) before = not_less entry (pair 10 1) _ (subst⁻¹ (λ x. IsBefore target_index x (pair 10 1)) e before) (inl refl)
none_first entry (suc zero, less, e) before = not_less entry (pair 10 1) _ (subst⁻¹ (λ x. IsBefore target_index x (pair 10 1)) e before) (inr refl)
none_first entry (suc (suc zero), less, e) before = not_less entry (pair 10 1) _ (subst⁻¹ (λ x. IsBefore target_index x (pair 10 1)) e before) (inr refl)
none_first entry (suc (suc (suc k)), less, e) before = omega (arith, less)

missing : ¬ Contains changed (pair 20 2)
missing (zero, less, e) = omega (arith, ap first_of e)
missing (suc zero, less, e) = omega (arith, ap first_of e)
missing (suc (suc zero), less, e) = omega (arith, ap first_of e)
missing (suc (suc (suc k)), less, e) = omega (arith, less)

first : (other : List Value) → Disagrees target_index target_rows changed other → ¬ IsBefore target_index other (pair 20 2)
first other (inl (stands, not_projected)) before =
    let same = stands_before other stands before in not_projected (subst⁻¹ (Contains target_entries) same (0, omega arith, refl))
first other (inr (inl (absent, projected))) before =
    let same = projected_before other projected before in absent (subst⁻¹ (Contains changed) same (0, omega arith, refl))
first other (inr (inr (unique, stands, (earlier, also, less, clash)))) before =
    let same = stands_before other stands before in none_first earlier also (subst (IsBefore target_index earlier) same less)

pub returns-clause-index : goal.returns-clause-index
returns-clause-index c = (
  pos 2,
  record {
    entries = changed;
    decoded = (first_values, (entry_values 21 2 refl refl, (entry_values 30 3 refl refl, tt)));
    entry = pair 20 2;
    disagrees = inr (inl (missing, (1, omega arith, refl)));
    rowid_is = refl;
    first = first;
  },
  refl,
)
