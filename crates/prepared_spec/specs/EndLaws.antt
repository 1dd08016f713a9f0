-- Behind all its changes an index is what the outcome says of it: crates above cite these facts in their proofs.
use Rattle.std.proofs.Common.{◌≡◌, ℕ, zero, suc, not, ◌⊎◌, Bool, true, false, List, [], ◌∷◌, ◌++◌, length, map, if◌then◌else◌, refl, sym, ap, ap₂, ◌∙◌, subst, inl, inr, arith}
use Rattle.std.proofs.Math.Path.{subst⁻¹}
use Rattle.std.specs.Prelude.{AllPairs, Contains, IsPermutation, filter, slice_index_or}
use Rattle.std.specs.List.{list_any}
use Rattle.std.proofs.lemmas.List.Sorted.{Contains-permutation, IsPermutation-sym}
use Rattle.rbu_value.specs.declared.value.Value.{Value}
use Rattle.schema_spec.specs.declared.schema.Index.{Index}
use Rattle.tree_spec.specs.Trees.{Member}
use Rattle.database_spec.specs.Rows.{TableRow}
use Rattle.database_spec.specs.Keys.{IsBefore, IsProjection}
use Rattle.database_spec.specs.KeysLaws.{before-apart}
use Rattle.database_spec.specs.ListsLaws.{sorted-one}
use Rattle.prepared_spec.specs.declared.violation.Change.{Change}
use Rattle.prepared_spec.specs.declared.violation.Change.TheVariants.{Remove, Add}
use Rattle.prepared_spec.specs.Tables.{same_values}
use Rattle.prepared_spec.specs.StepFaults.{entries_of, AreChanges}
use Rattle.prepared_spec.specs.Outcomes.{Entered, written_entry, is_removed, added_entries, recorded, IsIndexAfter, IsIndexNew}
use Rattle.prepared_spec.specs.OutcomesLaws.{entered-one}
use Rattle.prepared_spec.specs.MembersLaws.{Has, has-from, has-to, has-left, has-right, has-either, has-map, map-has, has-filter, filter-has, values-same, values-itself, any-has, has-any, decide, true-false, member-or, removed-true, added-has, has-added}

-- Records of entries.

abbrev entries_in : List Entered → List (List Value)
entries_in entered = map (λ one. one.entry) entered

module _ (format : ℕ) where
  -- what is recorded of an entry, by a test of the first one
  recorded-step : (one : Entered) (before : List Entered) (entry : List Value) → ((one.entry ≡ entry) × (recorded format (one ∷ before) entry ≡ one)) ⊎ (recorded format (one ∷ before) entry ≡ recorded format before entry)
  recorded-step one before entry =
      elim (decide (same_values one.entry entry)) [
        | inl passes ↦ inl (values-same one.entry entry passes, ap (λ t. if t then one else recorded format before entry) passes)
        | inr fails ↦ inr (ap (λ t. if t then one else recorded format before entry) fails)
      ]

  recorded-entry : (before : List Entered) (entry : List Value) → (recorded format before entry).entry ≡ entry
  recorded-entry [] entry = refl
  recorded-entry (one ∷ before) entry =
      elim (recorded-step one before entry) [ inl here ↦ ap (λ (o : Entered). o.entry) here.1 ∙ here.0 | inr later ↦ ap (λ (o : Entered). o.entry) later ∙ recorded-entry before entry ]

  recorded-absent : (before : List Entered) (entry : List Value) → ¬ Has entry (entries_in before) → recorded format before entry ≡ written_entry format entry
  recorded-absent [] entry absent = refl
  recorded-absent (one ∷ before) entry absent =
      elim (recorded-step one before entry) [ inl here ↦ absurd (absent (inl here.0)) | inr later ↦ later ∙ recorded-absent before entry (λ h. absent (inr h)) ]

  recorded-has : (before : List Entered) (entry : List Value) → Has entry (entries_in before) → Has (recorded format before entry) before
  recorded-has [] entry h = absurd h
  recorded-has (one ∷ before) entry h =
      elim (decide (same_values one.entry entry)) [
        | inl passes ↦ inl (sym (ap (λ t. if t then one else recorded format before entry) passes))
        | inr fails ↦
            let same = ap (λ t. if t then one else recorded format before entry) fails in
            elim h [
              | inl e ↦ absurd (true-false (same_values one.entry entry) (subst⁻¹ (λ v. same_values v entry ≡ true) e (values-itself entry)) fails)
              | inr rest ↦ inr (subst⁻¹ (λ (o : Entered). Has o before) same (recorded-has before entry rest))
            ]
      ]

map-at : {A B : Type 0} (f : A → B) (xs : List A) (i : ℕ) (d : A) → slice_index_or (map f xs) i (f d) ≡ f (slice_index_or xs i d)
map-at f [] i d = refl
map-at f (x ∷ xs) zero d = refl
map-at f (x ∷ xs) (suc i) d = map-at f xs i d

map-length : {A B : Type 0} (f : A → B) (xs : List A) → length (map f xs) ≡ length xs
map-length f [] = refl
map-length f (x ∷ xs) = ap suc (map-length f xs)

pairs-unmapped : {A B : Type 0} (R : B → B → Type 0) (f : A → B) (xs : List A) → AllPairs R (map f xs) → AllPairs (λ a b. R (f a) (f b)) xs
pairs-unmapped R f xs all i j d less long =
    subst (λ x. R x (f (slice_index_or xs j d))) (map-at f xs i d)
    (subst (λ y. R (slice_index_or (map f xs) i (f d)) y) (map-at f xs j d) (all i j (f d) less (omega (arith, long, map-length f xs))))

entries-recorded : (format : ℕ) (before : List Entered) (entries : List (List Value)) → entries_in (map (recorded format before) entries) ≡ entries
entries-recorded format before [] = refl
entries-recorded format before (entry ∷ entries) = ap₂ (λ e es. e ∷ es) (recorded-entry format before entry) (entries-recorded format before entries)

module _ (index : Index) where
  abbrev Before : Entered → Entered → Type 0
  Before a b = IsBefore index a.entry b.entry

  head-before : (one : Entered) (before : List Entered) (other : Entered) → AllPairs Before (one ∷ before) → Has other before → Before one other
  head-before one before other all h = let at = has-to before other h in subst (Before one) at.2 (all zero (suc at.0) other (omega arith) (omega (arith, at.1)))

  pairs-rest : (one : Entered) (before : List Entered) → AllPairs Before (one ∷ before) → AllPairs Before before
  pairs-rest one before all i j d less long = all (suc i) (suc j) d (omega (arith, less)) (omega (arith, long))

  never-itself : (a b : Entered) → a.entry ≡ b.entry → Before a b → ⊥
  never-itself a b same less =
      let itself : IsBefore index b.entry b.entry = subst (λ e. IsBefore index e b.entry) same less in before-apart index b.entry b.entry itself itself

  -- entries in order have one record each
  single : (before : List Entered) → AllPairs Before before → (a b : Entered) → Has a before → Has b before → a.entry ≡ b.entry → a ≡ b
  single [] all a b p q e = absurd p
  single (one ∷ before) all a b (inl p) (inl q) e = sym p ∙ q
  single (one ∷ before) all a b (inl p) (inr q) e = absurd (never-itself one b (ap (λ (o : Entered). o.entry) p ∙ e) (head-before one before b all q))
  single (one ∷ before) all a b (inr p) (inl q) e = absurd (never-itself one a (ap (λ (o : Entered). o.entry) q ∙ sym e) (head-before one before a all p))
  single (one ∷ before) all a b (inr p) (inr q) e = single before (pairs-rest one before all) a b p q e

  -- Behind all changes between old and new rows an index that held the projection of the old rows is the new one.
  module _ (format : ℕ) (old_rows rows : List TableRow) (changes : List Change) (are : AreChanges index old_rows rows changes) (before : List Entered) (held : IsProjection index old_rows (entries_in before))
      (entries : List (List Value)) (projection : IsProjection index rows entries) where
    before-sorted : AllPairs Before before
    before-sorted = pairs-unmapped (IsBefore index) (λ (one : Entered). one.entry) before held.sorted

    in-new : (entry : List Value) → Has entry entries → Contains (entries_of index rows) entry
    in-new entry h = Contains-permutation entries (entries_of index rows) entry (IsPermutation-sym (entries_of index rows) entries projection.all) (has-to entries entry h)

    from-new : (entry : List Value) → Contains (entries_of index rows) entry → Has entry entries
    from-new entry h = has-from entries entry (Contains-permutation (entries_of index rows) entries entry projection.all h)

    in-old : (entry : List Value) → Has entry (entries_in before) → Contains (entries_of index old_rows) entry
    in-old entry h = Contains-permutation (entries_in before) (entries_of index old_rows) entry (IsPermutation-sym (entries_of index old_rows) (entries_in before) held.all) (has-to (entries_in before) entry h)

    from-old : (entry : List Value) → Contains (entries_of index old_rows) entry → Has entry (entries_in before)
    from-old entry h = has-from (entries_in before) entry (Contains-permutation (entries_of index old_rows) (entries_in before) entry held.all h)

    abbrev stays : Entered → Bool
    stays one = not (list_any (is_removed one.entry) changes)

    abbrev made : List Entered
    made = filter stays before ++ map (written_entry format) (added_entries changes)

    abbrev wanted : List Entered
    wanted = map (recorded format before) entries

    not-true : (t : Bool) → not t ≡ true → t ≡ false
    not-true true e = sym e
    not-true false e = refl

    not-false : (t : Bool) → t ≡ false → not t ≡ true
    not-false t e = ap not e

    recorded-is : (one : Entered) → Has one before → recorded format before one.entry ≡ one
    recorded-is one h =
        single before before-sorted (recorded format before one.entry) one (recorded-has format before one.entry (has-map (λ (o : Entered). o.entry) before one h)) h (recorded-entry format before one.entry)

    made-wanted : (one : Entered) → Has one made → Has one wanted
    made-wanted one h =
        elim (has-either (filter stays before) (map (written_entry format) (added_entries changes)) one h) [
          | inl kept ↦
              let parts = filter-has stays before one kept in
              elim (member-or one.entry entries) [
                | inl new ↦ subst (λ (o : Entered). Has o wanted) (recorded-is one parts.0) (has-map (recorded format before) entries one.entry new)
                | inr gone ↦
                    let change = are.all (Remove one.entry) (in-old one.entry (has-map (λ (o : Entered). o.entry) before one parts.0), λ h. gone (from-new one.entry h)) in
                    let removed = has-any (is_removed one.entry) changes (Remove one.entry) (has-from changes (Remove one.entry) change) (values-itself one.entry) in
                    absurd (true-false (list_any (is_removed one.entry) changes) removed (not-true (list_any (is_removed one.entry) changes) parts.1))
              ]
          | inr added ↦
              let from = map-has (written_entry format) (added_entries changes) one added in
              let is = are.only (Add from.0) (has-to changes (Add from.0) (has-added changes from.0 from.1)) in
              let record_is = recorded-absent format before from.0 (λ h. is.1 (in-old from.0 h)) ∙ from.2 in
              subst (λ (o : Entered). Has o wanted) record_is (has-map (recorded format before) entries from.0 (from-new from.0 is.0))
        ]

    wanted-made : (one : Entered) → Has one wanted → Has one made
    wanted-made one h =
        let from = map-has (recorded format before) entries one h in
        let entry = from.0 in
        elim (member-or entry (entries_in before)) [
          | inl stood ↦
              let kept = recorded-has format before entry stood in
              let same = recorded-entry format before entry in
              let stay : stays (recorded format before entry) ≡ true =
              elim (decide (list_any (is_removed (recorded format before entry).entry) changes)) [
                | inl removed ↦
                    let found = any-has (is_removed (recorded format before entry).entry) changes removed in
                    let change = subst (λ (c : Change). Has c changes) (removed-true (recorded format before entry).entry found.0 found.2) found.1 in
                    let gone = are.only (Remove (recorded format before entry).entry) (has-to changes (Remove (recorded format before entry).entry) change) in
                    absurd (gone.1 (subst⁻¹ (Contains (entries_of index rows)) same (in-new entry from.1)))
                | inr fails ↦ not-false (list_any (is_removed (recorded format before entry).entry) changes) fails
              ] in
              subst (λ (o : Entered). Has o made) from.2 (has-left (filter stays before) (map (written_entry format) (added_entries changes)) (recorded format before entry) (has-filter stays before (recorded format before entry) kept stay))
          | inr absent ↦
              let change = are.all (Add entry) (in-new entry from.1, λ h. absent (from-old entry h)) in
              let added = has-map (written_entry format) (added_entries changes) entry (added-has changes entry (has-from changes (Add entry) change)) in
              let record_is : written_entry format entry ≡ one = sym (recorded-absent format before entry absent) ∙ from.2 in
              subst (λ (o : Entered). Has o made) record_is (has-right (filter stays before) (map (written_entry format) (added_entries changes)) (written_entry format entry) added)
        ]

    pub after-wanted : (after : List Entered) → IsPermutation made after → AllPairs Before after → after ≡ wanted
    after-wanted after all sorted =
        let order = pairs-unmapped (IsBefore index) (λ (one : Entered). one.entry) wanted (subst⁻¹ (AllPairs (IsBefore index)) (entries-recorded format before entries) projection.sorted) in
        sorted-one Before (λ x y. before-apart index x.entry y.entry) after wanted sorted order
        (λ one h. has-to wanted one (made-wanted one (has-from made one (Contains-permutation after made one (IsPermutation-sym made after all) h))))
        (λ one h. Contains-permutation made after one all (has-to made one (wanted-made one (has-from wanted one h))))

-- Behind all its changes an index has the members that the outcome says, where it held the projection of the old rows.
pub index-ends : (format : ℕ) (index : Index) (old_rows rows : List TableRow) (changes : List Change) (old new outcome : List Member) → AreChanges index old_rows rows changes
    → (after : IsIndexAfter format index changes old new) → IsProjection index old_rows (entries_in after.before) → IsIndexNew format index rows old outcome → new ≡ outcome
index-ends format index old_rows rows changes old new outcome are after held is =
    let before = entered-one old is.before after.before is.are_before after.are_before in
    let same = after-wanted index format old_rows rows changes are after.before held is.entries is.projection after.after after.all after.sorted in
    after.members_are ∙ ap (map (λ (one : Entered). one.member)) same ∙ members-of is.entries ∙ ap (λ (b : List Entered). map (λ entry. (recorded format b entry).member) is.entries) (sym before) ∙ sym is.members_are
  where
    members-of : (entries : List (List Value)) → map (λ (one : Entered). one.member) (map (recorded format after.before) entries) ≡ map (λ entry. (recorded format after.before entry).member) entries
    members-of [] = refl
    members-of (entry ∷ entries) = ap (λ (ms : List Member). (recorded format after.before entry).member ∷ ms) (members-of entries)
