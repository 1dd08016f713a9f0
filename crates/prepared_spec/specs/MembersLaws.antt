-- Tests of values and changes, beside the laws of items of lists: crates above cite these facts in their proofs.
use Rattle.std.proofs.Common.{◌≡◌, ◌&&◌, ◌⊎◌, Bool, true, false, List, [], ◌∷◌, refl, sym, ap, ap₂, inl, inr}
use Rattle.std.proofs.Math.Path.{subst⁻¹}
use Rattle.std.specs.List.{list_any}
use Rattle.std.proofs.lemmas.Bool.{and_parts}
use Rattle.std.specs.Ordering.{is_eq}
use Rattle.std.specs.declared.cmp.Ordering.{Ordering}
use Rattle.std.specs.declared.cmp.Ordering.TheVariants.{Less, Equal, Greater}
use Rattle.rbu_value.specs.declared.order.Collation.TheVariants.{Binary}
use Rattle.rbu_value.specs.declared.value.Value.{Value}
use Rattle.rbu_value.specs.Order.{value_cmp}
use Rattle.rbu_value.specs.OrderLaws.{value_cmp-same, value_cmp-itself}
pub use Rattle.database_spec.specs.ItemsLaws.{Has, has-from, has-to, has-left, has-right, has-either, has-map, map-has, cond-first, cond-later, cond-cases, has-filter, filter-has, or-right, any-has, has-any, decide, true-false}
use Rattle.prepared_spec.specs.declared.violation.Change.{Change}
use Rattle.prepared_spec.specs.declared.violation.Change.TheVariants.{Remove, Add}
use Rattle.prepared_spec.specs.Tables.{same_values}
use Rattle.prepared_spec.specs.Outcomes.{is_removed, added_entries}

-- Tests.

pub eq-equal : (o : Ordering) → is_eq o ≡ true → o ≡ Equal
eq-equal Less e = absurd (let h : ◌≡◌ {A = Bool} false true = e in let no : ⊥ = cc in no)
eq-equal Equal e = refl
eq-equal Greater e = absurd (let h : ◌≡◌ {A = Bool} false true = e in let no : ⊥ = cc in no)

pub values-same : (a b : List Value) → same_values a b ≡ true → a ≡ b
values-same [] [] e = refl
values-same [] (y ∷ b) e = absurd (let h : ◌≡◌ {A = Bool} false true = e in let no : ⊥ = cc in no)
values-same (x ∷ a) [] e = absurd (let h : ◌≡◌ {A = Bool} false true = e in let no : ⊥ = cc in no)
values-same (x ∷ a) (y ∷ b) e =
    let both = and_parts (is_eq (value_cmp Binary x y)) (same_values a b) e in
    ap₂ (λ v vs. v ∷ vs) (value_cmp-same x y (eq-equal (value_cmp Binary x y) both.0)) (values-same a b both.1)

pub values-itself : (a : List Value) → same_values a a ≡ true
values-itself [] = refl
values-itself (x ∷ a) = ap₂ (λ s t. s && t) (ap is_eq (value_cmp-itself Binary x)) (values-itself a)

-- an entry stands in a list, or not
pub member-or : (entry : List Value) (list : List (List Value)) → Has entry list ⊎ (¬ Has entry list)
member-or entry list =
    elim (decide (list_any (same_values entry) list)) [
      | inl passes ↦ let found = any-has (same_values entry) list passes in inl (subst⁻¹ (λ e. Has e list) (values-same entry found.0 found.2) found.1)
      | inr fails ↦ inr (λ h. true-false (list_any (same_values entry) list) (has-any (same_values entry) list entry h (values-itself entry)) fails)
    ]

pub removed-true : (entry : List Value) (change : Change) → is_removed entry change ≡ true → change ≡ Remove entry
removed-true entry (Remove other) e = ap Remove (sym (values-same entry other e))
removed-true entry (Add other) e = absurd (let h : ◌≡◌ {A = Bool} false true = e in let no : ⊥ = cc in no)

pub added-has : (changes : List Change) (entry : List Value) → Has (Add entry) changes → Has entry (added_entries changes)
added-has [] entry h = absurd h
added-has (Remove other ∷ changes) entry (inl e) = absurd (let h : ⊥ = cc in h)
added-has (Remove other ∷ changes) entry (inr h) = added-has changes entry h
added-has (Add other ∷ changes) entry (inl e) = let same : other ≡ entry = cc in inl same
added-has (Add other ∷ changes) entry (inr h) = inr (added-has changes entry h)

pub has-added : (changes : List Change) (entry : List Value) → Has entry (added_entries changes) → Has (Add entry) changes
has-added [] entry h = absurd h
has-added (Remove other ∷ changes) entry h = inr (has-added changes entry h)
has-added (Add other ∷ changes) entry (inl e) = inl (ap Add e)
has-added (Add other ∷ changes) entry (inr h) = inr (has-added changes entry h)
