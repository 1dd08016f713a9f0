-- The changes of an index, and additions without a fault, item by item: crates above cite these facts in their proofs.
use Rattle.std.proofs.Common.{◌≡◌, ◌≢◌, Bool, true, false, ◌⊎◌, List, [], ◌∷◌, refl, sym, ap, ◌∙◌, subst, inl, inr}
use Rattle.std.proofs.Math.Path.{subst⁻¹}
use Rattle.std.specs.Prelude.{AllPairs, Contains}
use Rattle.std.specs.List.{AllByRecursion, list_any}
use Rattle.std.specs.Ordering.{ordering_reverse}
use Rattle.std.specs.declared.cmp.Ordering.{Ordering}
use Rattle.std.specs.declared.cmp.Ordering.TheVariants.{Less, Equal, Greater}
use Rattle.rbu_value.specs.declared.value.Value.{Value}
use Rattle.schema_spec.specs.declared.schema.Index.{Index}
use Rattle.database_spec.specs.Rows.{TableRow}
use Rattle.database_spec.specs.Keys.{columns_cmp, order_of}
use Rattle.database_spec.specs.KeysLaws.{columns-reverse}
use Rattle.database_spec.specs.ListsLaws.{PairsByRecursion, pairs-from}
use Rattle.prepared_spec.specs.declared.violation.Change.{Change}
use Rattle.prepared_spec.specs.declared.violation.Change.TheVariants.{Remove, Add}
use Rattle.prepared_spec.specs.Tables.{same_values}
use Rattle.prepared_spec.specs.StepFaults.{entries_of, IsChange, change_cmp, AreChanges, AddsClash}
use Rattle.prepared_spec.specs.MembersLaws.{Has, has-from, has-to, has-any, any-has, values-same, values-itself, true-false}

pub all-has : {A : Type 0} (P : A → Type 0) (xs : List A) (x : A) → AllByRecursion P xs → Has x xs → P x
all-has P [] x all h = absurd h
all-has P (y ∷ xs) x all (inl e) = subst P e all.0
all-has P (y ∷ xs) x all (inr h) = all-has P xs x all.1 h

-- whether an entry stands in a list, by a test that computes
pub present : (entry : List Value) (list : List (List Value)) → list_any (same_values entry) list ≡ true → Contains list entry
present entry list passes =
    let found = any-has (same_values entry) list passes in
    has-to list entry (subst⁻¹ (λ e. Has e list) (values-same entry found.0 found.2) found.1)

pub absent : (entry : List Value) (list : List (List Value)) → list_any (same_values entry) list ≡ false → ¬ Contains list entry
absent entry list fails stands =
    true-false (list_any (same_values entry) list) (has-any (same_values entry) list entry (has-from list entry stands) (values-itself entry)) fails

module _ (index : Index) (old new : List TableRow) where
  -- Changes that are each one, among which each entry of either side stands that is not on the other, and that are in order, are all changes.
  pub changes-are : (changes : List Change) → AllByRecursion (IsChange index old new) changes
      → AllByRecursion (λ entry. Contains (entries_of index new) entry ⊎ Has (Remove entry) changes) (entries_of index old)
      → AllByRecursion (λ entry. Contains (entries_of index old) entry ⊎ Has (Add entry) changes) (entries_of index new)
      → PairsByRecursion (λ (a b : Change). change_cmp index a b ≡ Less) changes → AreChanges index old new changes
  changes-are changes each removed added sorted = record {
    only = λ change has. all-has (IsChange index old new) changes change each (has-from changes change has);
    all = all;
    sorted = pairs-from (λ (a b : Change). change_cmp index a b ≡ Less) changes sorted;
  }
    where
      all : (change : Change) → IsChange index old new change → Contains changes change
      all (Remove entry) (stood, gone) =
          elim (all-has (λ e. Contains (entries_of index new) e ⊎ Has (Remove e) changes) (entries_of index old) entry removed (has-from (entries_of index old) entry stood)) [
            | inl stands ↦ absurd (gone stands)
            | inr has ↦ has-to changes (Remove entry) has
          ]
      all (Add entry) (stands, new_) =
          elim (all-has (λ e. Contains (entries_of index old) e ⊎ Has (Add e) changes) (entries_of index new) entry added (has-from (entries_of index new) entry stands)) [
            | inl stood ↦ absurd (new_ stood)
            | inr has ↦ has-to changes (Add entry) has
          ]

turned-equal : (o p : Ordering) → o ≡ ordering_reverse p → o ≡ Equal → p ≡ Equal
turned-equal o Less e same = let h : ◌≡◌ {A = Ordering} Greater Equal = sym e ∙ same in let no : ⊥ = cc in absurd no
turned-equal o Equal e same = refl
turned-equal o Greater e same = let h : ◌≡◌ {A = Ordering} Less Equal = sym e ∙ same in let no : ⊥ = cc in absurd no

-- entries of which no two agree in their columns
abbrev pub Differ : Index → List (List Value) → Type 0
Differ index entries = PairsByRecursion (λ a b. columns_cmp (order_of index) a b ≢ Equal) entries

differ-has : (index : Index) (entries : List (List Value)) (a b : List Value) → Differ index entries → Has a entries → Has b entries → a ≢ b → columns_cmp (order_of index) a b ≢ Equal
differ-has index [] a b differ h k unlike same = h
differ-has index (x ∷ entries) a b differ (inl e) (inl f) unlike same = unlike (sym e ∙ f)
differ-has index (x ∷ entries) a b differ (inl e) (inr k) unlike same =
    all-has (λ y. columns_cmp (order_of index) x y ≢ Equal) entries b differ.0 k (subst⁻¹ (λ (v : List Value). columns_cmp (order_of index) v b ≡ Equal) e same)
differ-has index (x ∷ entries) a b differ (inr h) (inl f) unlike same =
    let back = turned-equal (columns_cmp (order_of index) a b) (columns_cmp (order_of index) b a) (columns-reverse (order_of index) a b) same in
    all-has (λ y. columns_cmp (order_of index) x y ≢ Equal) entries a differ.0 h (subst⁻¹ (λ (v : List Value). columns_cmp (order_of index) v a ≡ Equal) f back)
differ-has index (x ∷ entries) a b differ (inr h) (inr k) unlike same = differ-has index entries a b differ.1 h k unlike same

-- where no two entries of the new rows agree, no addition has a fault
pub differ-no_clash : (index : Index) (old new : List TableRow) (entry : List Value) → Differ index (entries_of index new) → ¬ AddsClash index old new entry
differ-no_clash index old new entry differ (unique, (other, clash), at) =
    differ-has index (entries_of index new) entry other differ (has-from (entries_of index new) entry clash.entry_stands) (has-from (entries_of index new) other clash.other_stands) clash.differ clash.clash.0
