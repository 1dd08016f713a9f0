-- Pairs of rows, one for each rowid, and the changes that are due for them, item by item.
use Rattle.std.proofs.Common.{◌≡◌, ◌≢◌, ℤ, ◌⊎◌, Bool, true, false, List, [], ◌∷◌, ◌++◌, Option, Some, None, if◌then◌else◌, refl, sym, ap, ap₂, ◌∙◌, subst, inl, inr}
use Rattle.std.specs.Prelude.{Contains, IfSome, filter_map}
use Rattle.std.specs.List.{AllZip}
use Rattle.std.specs.Option.{option_map}
use Rattle.rbu_value.specs.declared.value.Value.{Value}
use Rattle.schema_spec.specs.declared.schema.Table.{Table}
use Rattle.schema_spec.specs.declared.schema.Index.{Index}
use Rattle.database_spec.specs.Rows.{TableRow}
use Rattle.database_spec.specs.Keys.{entry_of}
use Rattle.database_spec.specs.ListsLaws.{PairsByRecursion}
use Rattle.prepared_spec.specs.declared.violation.Change.{Change}
use Rattle.prepared_spec.specs.declared.violation.Change.TheVariants.{Remove, Add}
use Rattle.prepared_spec.specs.Tables.{same_values}
use Rattle.prepared_spec.specs.StepFaults.{entries_of, IsChange}
use Rattle.prepared_spec.specs.MembersLaws.{Has, has-from, has-to, has-left, has-right, has-either, has-map, map-has, values-same, values-itself, decide, true-false}
use Rattle.prepared_spec.specs.ChangesLaws.{all-has}
use Rattle.index_changes.specs.declared.pairs.OldNew.{OldNew}
use Rattle.index_changes.specs.Pairs.{row_in, old_rows, new_rows, IsOfRowid}
use Rattle.index_changes.specs.Dues.{entry_in, is_kept, removed, added, pair_changes, all_changes}
use Rattle.index_changes.specs.TouchedLaws.{entry-rowid}
use Rattle.index_changes.specs.ListsLaws.{filtered-has, has-filtered, joined-has, has-joined, zip-second, option-mapped}

-- Rowids.

-- a row of a pair, on either side
abbrev pub OfPair : OldNew → ℤ × List Value → Type 0
OfPair pair row = (pair.old ≡ Some row) ⊎ (pair.new ≡ Some row)

some-is : (o : Option (ℤ × List Value)) (row : ℤ × List Value) (z : ℤ) → IfSome o (λ r. r.0 ≡ z) → o ≡ Some row → row.0 ≡ z
some-is o row z of e = subst (λ (p : Option (ℤ × List Value)). IfSome p (λ r. r.0 ≡ z)) e of

pub of-rowid : (pair : OldNew) (row : ℤ × List Value) (z : ℤ) → IsOfRowid pair z → OfPair pair row → row.0 ≡ z
of-rowid pair row z of (inl e) = some-is pair.old row z of.old e
of-rowid pair row z of (inr e) = some-is pair.new row z of.new e

-- rows of one rowid are of one pair
one-pair : (pairs : List OldNew) (rowids : List ℤ) → AllZip IsOfRowid pairs rowids → PairsByRecursion (λ (a b : ℤ). a ≢ b) rowids
    → (p q : OldNew) (a b : ℤ × List Value) → Has p pairs → Has q pairs → OfPair p a → OfPair q b → a.0 ≡ b.0 → p ≡ q
one-pair [] rowids each differ p q a b h k x y e = absurd h
one-pair (r ∷ pairs) [] each differ p q a b h k x y e = absurd each
one-pair (r ∷ pairs) (z ∷ rowids) each differ p q a b (inl s) (inl t) x y e = sym s ∙ t
one-pair (r ∷ pairs) (z ∷ rowids) each differ p q a b (inl s) (inr k) x y e =
    let other = zip-second IsOfRowid pairs rowids q k each.1 in
    let mine : a.0 ≡ z = of-rowid p a z (subst (λ (v : OldNew). IsOfRowid v z) s each.0) x in
    let theirs : b.0 ≡ other.0 = of-rowid q b other.0 other.2 y in
    absurd (all-has (λ (w : ℤ). z ≢ w) rowids other.0 differ.0 other.1 (sym mine ∙ e ∙ theirs))
one-pair (r ∷ pairs) (z ∷ rowids) each differ p q a b (inr h) (inl t) x y e =
    let other = zip-second IsOfRowid pairs rowids p h each.1 in
    let mine : a.0 ≡ other.0 = of-rowid p a other.0 other.2 x in
    let theirs : b.0 ≡ z = of-rowid q b z (subst (λ (v : OldNew). IsOfRowid v z) t each.0) y in
    absurd (all-has (λ (w : ℤ). z ≢ w) rowids other.0 differ.0 other.1 (sym theirs ∙ sym e ∙ mine))
one-pair (r ∷ pairs) (z ∷ rowids) each differ p q a b (inr h) (inr k) x y e = one-pair pairs rowids each.1 differ.1 p q a b h k x y e

module _ (table : Table) (index : Index) where
  -- Entries.

  abbrev rows_on : (OldNew → Option (ℤ × List Value)) → List OldNew → List TableRow
  rows_on side pairs = filter_map (λ pair. option_map (row_in table) (side pair)) pairs

  entry-has : (side : OldNew → Option (ℤ × List Value)) (pairs : List OldNew) (entry : List Value) → Contains (entries_of index (rows_on side pairs)) entry
      → (pair : OldNew) × (row : ℤ × List Value) × Has pair pairs × (side pair ≡ Some row) × (entry_in table index row ≡ entry)
  entry-has side pairs entry stands =
      let found = map-has (entry_of index) (rows_on side pairs) entry (has-from (entries_of index (rows_on side pairs)) entry stands) in
      let from = filtered-has (λ (pair : OldNew). option_map (row_in table) (side pair)) pairs found.0 found.1 in
      let row = option-mapped (row_in table) (side from.0) found.0 from.2 in
      (from.0, row.0, from.1, row.1, ap (entry_of index) row.2 ∙ found.2)

  has-entry : (side : OldNew → Option (ℤ × List Value)) (pairs : List OldNew) (pair : OldNew) (row : ℤ × List Value) → Has pair pairs → side pair ≡ Some row
      → Contains (entries_of index (rows_on side pairs)) (entry_in table index row)
  has-entry side pairs pair row h e =
      has-to (entries_of index (rows_on side pairs)) (entry_in table index row) (has-map (entry_of index) (rows_on side pairs) (row_in table row)
      (has-filtered (λ (p : OldNew). option_map (row_in table) (side p)) pairs pair (row_in table row) h (ap (option_map (row_in table)) e)))

  -- The changes for one pair.

  kept-cases : (t : Bool) (xs : List Change) (change : Change) → Has change (if t then [] else xs) → (t ≡ false) × Has change xs
  kept-cases true xs change h = absurd h
  kept-cases false xs change h = (refl, h)

  not-kept : (t : Bool) (xs : List Change) (change : Change) → t ≡ false → Has change xs → Has change (if t then [] else xs)
  not-kept true xs change e h = absurd (let no : ⊥ = cc in no)
  not-kept false xs change e h = h

  removed-has : (o : Option (ℤ × List Value)) (change : Change) → Has change (removed table index o) → (row : ℤ × List Value) × (o ≡ Some row) × (Remove (entry_in table index row) ≡ change)
  removed-has None change h = absurd h
  removed-has (Some row) change (inl e) = (row, refl, e)
  removed-has (Some row) change (inr h) = absurd h

  added-has : (o : Option (ℤ × List Value)) (change : Change) → Has change (added table index o) → (row : ℤ × List Value) × (o ≡ Some row) × (Add (entry_in table index row) ≡ change)
  added-has None change h = absurd h
  added-has (Some row) change (inl e) = (row, refl, e)
  added-has (Some row) change (inr h) = absurd h

  has-removed : (o : Option (ℤ × List Value)) (row : ℤ × List Value) → o ≡ Some row → Has (Remove (entry_in table index row)) (removed table index o)
  has-removed None row e = absurd (let no : ⊥ = cc in no)
  has-removed (Some other) row e = let same : other ≡ row = cc in inl (ap (λ (r : ℤ × List Value). Remove (entry_in table index r)) same)

  has-added : (o : Option (ℤ × List Value)) (row : ℤ × List Value) → o ≡ Some row → Has (Add (entry_in table index row)) (added table index o)
  has-added None row e = absurd (let no : ⊥ = cc in no)
  has-added (Some other) row e = let same : other ≡ row = cc in inl (ap (λ (r : ℤ × List Value). Add (entry_in table index r)) same)

  pub pair-cases : (pair : OldNew) (change : Change) → Has change (pair_changes table index pair)
      → (is_kept table index pair.old pair.new ≡ false)
      × (((row : ℤ × List Value) × (pair.old ≡ Some row) × (Remove (entry_in table index row) ≡ change)) ⊎ ((row : ℤ × List Value) × (pair.new ≡ Some row) × (Add (entry_in table index row) ≡ change)))
  pair-cases pair change h =
      let k = kept-cases (is_kept table index pair.old pair.new) (removed table index pair.old ++ added table index pair.new) change h in (
        k.0,
        elim (has-either (removed table index pair.old) (added table index pair.new) change k.1) [
          | inl x ↦ inl (removed-has pair.old change x)
          | inr y ↦ inr (added-has pair.new change y)
        ],
      )

  kept-is : (o n : Option (ℤ × List Value)) (a b : ℤ × List Value) → o ≡ Some a → n ≡ Some b → entry_in table index a ≡ entry_in table index b → is_kept table index o n ≡ true
  kept-is o n a b e f same =
      ap₂ (is_kept table index) e f ∙ ap (same_values (entry_in table index a)) (sym same) ∙ values-itself (entry_in table index a)

  is-kept : (o n : Option (ℤ × List Value)) → is_kept table index o n ≡ true
      → (a : ℤ × List Value) × (b : ℤ × List Value) × (o ≡ Some a) × (n ≡ Some b) × (entry_in table index a ≡ entry_in table index b)
  is-kept (Some a) (Some b) e = (a, b, refl, refl, values-same (entry_in table index a) (entry_in table index b) e)
  is-kept (Some a) None e = absurd (let h : ◌≡◌ {A = Bool} false true = e in let no : ⊥ = cc in no)
  is-kept None n e = absurd (let h : ◌≡◌ {A = Bool} false true = e in let no : ⊥ = cc in no)

  module _ (pairs : List OldNew) (rowids : List ℤ) (each : AllZip IsOfRowid pairs rowids) (differ : PairsByRecursion (λ (a b : ℤ). a ≢ b) rowids) where
    abbrev olds : List TableRow
    olds = old_rows table pairs

    abbrev news : List TableRow
    news = new_rows table pairs

    goes : (pair : OldNew) (row : ℤ × List Value) → Has pair pairs → pair.old ≡ Some row → is_kept table index pair.old pair.new ≡ false → IsChange index olds news (Remove (entry_in table index row))
    goes p a h e fails = (
      has-entry (λ (pair : OldNew). pair.old) pairs p a h e,
      λ stands.
          let found = entry-has (λ (pair : OldNew). pair.new) pairs (entry_in table index a) stands in
          let rowid : found.1.0 ≡ a.0 = entry-rowid index (row_in table found.1) (row_in table a) found.4 in
          let same = one-pair pairs rowids each differ p found.0 a found.1 h found.2 (inl e) (inr found.3) (sym rowid) in
          true-false (is_kept table index p.old p.new) (kept-is p.old p.new a found.1 e (ap (λ (pair : OldNew). pair.new) same ∙ found.3) (sym found.4)) fails,
    )

    comes : (pair : OldNew) (row : ℤ × List Value) → Has pair pairs → pair.new ≡ Some row → is_kept table index pair.old pair.new ≡ false → IsChange index olds news (Add (entry_in table index row))
    comes p b h e fails = (
      has-entry (λ (pair : OldNew). pair.new) pairs p b h e,
      λ stands.
          let found = entry-has (λ (pair : OldNew). pair.old) pairs (entry_in table index b) stands in
          let rowid : found.1.0 ≡ b.0 = entry-rowid index (row_in table found.1) (row_in table b) found.4 in
          let same = one-pair pairs rowids each differ p found.0 b found.1 h found.2 (inr e) (inl found.3) (sym rowid) in
          true-false (is_kept table index p.old p.new) (kept-is p.old p.new found.1 b (ap (λ (pair : OldNew). pair.old) same ∙ found.3) e found.4) fails,
    )

    -- each change that is due is one
    pub each-is : (change : Change) → Has change (all_changes table index pairs) → IsChange index olds news change
    each-is change h =
        let found = joined-has (pair_changes table index) pairs change h in
        let cases = pair-cases found.0 change found.2 in
        elim cases.1 [
          | inl x ↦ subst (IsChange index olds news) x.2 (goes found.0 x.0 found.1 x.1 cases.0)
          | inr y ↦ subst (IsChange index olds news) y.2 (comes found.0 y.0 found.1 y.1 cases.0)
        ]

    -- an old entry stays or goes, and a new one stood or comes
    pub gone-or : (entry : List Value) → Has entry (entries_of index olds) → Contains (entries_of index news) entry ⊎ Has (Remove entry) (all_changes table index pairs)
    gone-or entry h =
        let found = entry-has (λ (pair : OldNew). pair.old) pairs entry (has-to (entries_of index olds) entry h) in
        let pair = found.0 in
        elim (decide (is_kept table index pair.old pair.new)) [
          | inl kept ↦
              let k = is-kept pair.old pair.new kept in
              let both : Some k.0 ≡ Some found.1 = sym k.2 ∙ found.3 in
              let one : k.0 ≡ found.1 = cc in
              inl (subst (Contains (entries_of index news)) (sym k.4 ∙ ap (entry_in table index) one ∙ found.4) (has-entry (λ (p : OldNew). p.new) pairs pair k.1 found.2 k.3))
          | inr fails ↦
              inr (subst (λ (e : List Value). Has (Remove e) (all_changes table index pairs)) found.4 (has-joined (pair_changes table index) pairs pair (Remove (entry_in table index found.1)) found.2
              (not-kept (is_kept table index pair.old pair.new) (removed table index pair.old ++ added table index pair.new) (Remove (entry_in table index found.1)) fails
              (has-left (removed table index pair.old) (added table index pair.new) (Remove (entry_in table index found.1)) (has-removed pair.old found.1 found.3)))))
        ]

    pub came-or : (entry : List Value) → Has entry (entries_of index news) → Contains (entries_of index olds) entry ⊎ Has (Add entry) (all_changes table index pairs)
    came-or entry h =
        let found = entry-has (λ (pair : OldNew). pair.new) pairs entry (has-to (entries_of index news) entry h) in
        let pair = found.0 in
        elim (decide (is_kept table index pair.old pair.new)) [
          | inl kept ↦
              let k = is-kept pair.old pair.new kept in
              let both : Some k.1 ≡ Some found.1 = sym k.3 ∙ found.3 in
              let one : k.1 ≡ found.1 = cc in
              inl (subst (Contains (entries_of index olds)) (k.4 ∙ ap (entry_in table index) one ∙ found.4) (has-entry (λ (p : OldNew). p.old) pairs pair k.0 found.2 k.2))
          | inr fails ↦
              inr (subst (λ (e : List Value). Has (Add e) (all_changes table index pairs)) found.4 (has-joined (pair_changes table index) pairs pair (Add (entry_in table index found.1)) found.2
              (not-kept (is_kept table index pair.old pair.new) (removed table index pair.old ++ added table index pair.new) (Add (entry_in table index found.1)) fails
              (has-right (removed table index pair.old) (added table index pair.new) (Add (entry_in table index found.1)) (has-added pair.new found.1 found.3)))))
        ]
