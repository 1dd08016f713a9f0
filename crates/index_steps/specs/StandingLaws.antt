-- Which entries stand in an index behind some of its changes, and how changes are in order: crates above cite these facts in their proofs.
use Rattle.std.proofs.Common.{◌≡◌, ◌≢◌, ℕ, ◌+◌, ◌⊎◌, not, Bool, true, false, List, [], ◌∷◌, ◌++◌, length, map, refl, sym, ap, ap₂, ◌∙◌, subst, inl, inr, arith, length-append}
use Rattle.std.proofs.Math.Path.{subst⁻¹}
use Rattle.std.specs.Prelude.{Contains, filter, slice_index_or}
use Rattle.std.specs.List.{AllZip, list_any}
use Rattle.std.specs.Cmp.{nat_cmp_total}
use Rattle.std.specs.Ordering.{nat_cmp, ordering_reverse, ordering_then}
use Rattle.std.specs.declared.cmp.Ordering.{Ordering}
use Rattle.std.specs.declared.cmp.Ordering.TheVariants.{Less, Equal, Greater}
use Rattle.std.proofs.lemmas.List.{length-map}
use Rattle.std.proofs.lemmas.List.Sorted.{Contains-permutation, IsPermutation-sym}
use Rattle.rbu_value.specs.declared.order.Collation.TheVariants.{Binary}
use Rattle.rbu_value.specs.declared.order.Collation.{Collation}
use Rattle.rbu_value.specs.declared.value.Value.{Value}
use Rattle.rbu_value.specs.declared.value.Value.TheVariants.{Int, Null}
use Rattle.rbu_value.specs.Order.{value_cmp}
use Rattle.rbu_value.specs.OrderLaws.{value_cmp-total, value_cmp-same}
use Rattle.format_spec.specs.Record.{IsRecord}
use Rattle.record_codec.specs.Records.{HaveRecord}
use Rattle.record_codec.specs.RecordLaws.{canonical_record_read}
use Rattle.schema_spec.specs.declared.schema.Index.{Index}
use Rattle.tree_spec.specs.Trees.{Member}
use Rattle.database_spec.specs.Rows.{TableRow}
use Rattle.database_spec.specs.RowsLaws.{record-one}
use Rattle.database_spec.specs.Keys.{IsBefore, columns_cmp, entry_cmp, entry_of, last_value, order_of}
use Rattle.database_spec.specs.KeysLaws.{columns-reverse, entry-reverse, reverse-then}
use Rattle.database_spec.specs.ListsLaws.{PairsByRecursion}
use Rattle.index_changes.specs.ListsLaws.{pairs-at}
use Rattle.prepared_spec.specs.declared.violation.Change.{Change}
use Rattle.prepared_spec.specs.declared.violation.Change.TheVariants.{Remove, Add}
use Rattle.prepared_spec.specs.MembersLaws.{Has, has-from, has-to, has-left, has-right, has-either, has-map, map-has, has-filter, filter-has, values-itself, any-has, has-any, decide, true-false, removed-true, added-has, has-added}
use Rattle.prepared_spec.specs.ChangesLaws.{all-has}
use Rattle.prepared_spec.specs.Outcomes.{AreEntered, Entered, IsIndexAfter, added_entries, is_removed, written_entry}
use Rattle.prepared_spec.specs.StepFaults.{IsChange, change_cmp, change_rank, changed_entry, entries_of}
use Rattle.prepared_laws.specs.ChangesMadeLaws.{last-is}
use Rattle.prepared_laws.specs.TablesMadeLaws.{Apart}
use Rattle.index_steps.specs.IndexSteps.{AreChangesOf}
use Rattle.index_steps.specs.ListsLaws.{has-all, pairs-high, pairs-low, pairs-two}

-- Entries.

itself-equal : (o : Ordering) → o ≡ ordering_reverse o → o ≡ Equal
itself-equal Less e = absurd (let h : ⊥ = cc in h)
itself-equal Equal e = refl
itself-equal Greater e = absurd (let h : ⊥ = cc in h)

pub entry-itself : (index : Index) (a : List Value) → entry_cmp (order_of index) a a ≡ Equal
entry-itself index a = itself-equal (entry_cmp (order_of index) a a) (entry-reverse (order_of index) a a)

pub then-equal : (o p : Ordering) → ordering_then o p ≡ Equal → (o ≡ Equal) × (p ≡ Equal)
then-equal Less p e = let h : ⊥ = cc in absurd h
then-equal Equal p e = (refl, e)
then-equal Greater p e = let h : ⊥ = cc in absurd h

-- an entry of a row has a value for each column, and the rowid
row-many : (index : Index) (row : TableRow) → length (entry_of index row) ≡ length (order_of index) + 1
row-many index row =
    let pair : ℕ × Collation × Bool → Collation × Bool = λ column. (column.1, column.2) in
    let value : ℕ × Collation × Bool → Value = λ column. slice_index_or row.values column.0 Null in
    omega (arith, length-map index.columns pair, length-map index.columns value, length-append (map value index.columns) (Int row.rowid ∷ []))

pub entry-many : (index : Index) (rows : List TableRow) (entry : List Value) → Contains (entries_of index rows) entry → length entry ≡ length (order_of index) + 1
entry-many index rows entry has = let row = map-has (entry_of index) rows entry (has-from (entries_of index rows) entry has) in subst (λ (e : List Value). length e ≡ length (order_of index) + 1) row.2 (row-many index row.0)

-- rows that differ in their rowids
same-row : (rows : List TableRow) → Apart rows → (a b : TableRow) → Has a rows → Has b rows → a.rowid ≡ b.rowid → a ≡ b
same-row rows apart a b h k e =
    elim (pairs-two (λ (x y : TableRow). x.rowid ≢ y.rowid) rows a b apart h k) [ inl same ↦ same | inr other ↦ elim other [ inl p ↦ absurd (p e) | inr q ↦ absurd (q (sym e)) ] ]

-- so an entry is known by its rowid
pub entry-alone : (index : Index) (rows : List TableRow) → Apart rows → (a b : List Value) → Contains (entries_of index rows) a → Contains (entries_of index rows) b
    → value_cmp Binary (last_value (order_of index) a) (last_value (order_of index) b) ≡ Equal → a ≡ b
entry-alone index rows apart a b h k e =
    let one = map-has (entry_of index) rows a (has-from (entries_of index rows) a h) in
    let two = map-has (entry_of index) rows b (has-from (entries_of index rows) b k) in
    let order = order_of index in
    let rowids : Int one.0.rowid ≡ Int two.0.rowid =
    sym (last-is index one.0) ∙ ap (last_value order) one.2 ∙ value_cmp-same (last_value order a) (last_value order b) e ∙ ap (last_value order) (sym two.2) ∙ last-is index two.0 in
    let same : one.0.rowid ≡ two.0.rowid = cc in
    sym one.2 ∙ ap (entry_of index) (same-row rows apart one.0 two.0 one.1 two.1 same) ∙ two.2

-- Changes in order.

abbrev pub cmp : Index → Change → Change → Ordering
cmp index a b = change_cmp index a b

change-reverse : (index : Index) (a b : Change) → change_cmp index a b ≡ ordering_reverse (change_cmp index b a)
change-reverse index a b =
    let order = order_of index in
    let x = changed_entry a in
    let y = changed_entry b in
    let ranks = nat_cmp (change_rank b) (change_rank a) in
    let lasts = value_cmp Binary (last_value order y) (last_value order x) in
    ap₂ ordering_then (columns-reverse order x y)
    (ap₂ ordering_then (nat_cmp_total.antisymm (change_rank a) (change_rank b)) ((value_cmp-total Binary).antisymm (last_value order x) (last_value order y)) ∙ sym (reverse-then ranks lasts))
    ∙ sym (reverse-then (columns_cmp order y x) (ordering_then ranks lasts))

pub change-apart : (index : Index) (a b : Change) → change_cmp index a b ≡ Less → change_cmp index b a ≡ Less → ⊥
change-apart index a b p q = let turned : Less ≡ Greater = sym p ∙ change-reverse index a b ∙ ap ordering_reverse q in let h : ⊥ = cc in h

-- by lesser columns a change goes before another
pub lesser-first : (index : Index) (a b : Change) → columns_cmp (order_of index) (changed_entry a) (changed_entry b) ≡ Less → change_cmp index a b ≡ Less
lesser-first index a b less =
    let order = order_of index in
    ap (λ o. ordering_then o (ordering_then (nat_cmp (change_rank a) (change_rank b)) (value_cmp Binary (last_value order (changed_entry a)) (last_value order (changed_entry b))))) less

-- and a removal before an addition of equal columns
pub removal-first : (index : Index) (a b : List Value) → columns_cmp (order_of index) a b ≡ Equal → change_cmp index (Remove a) (Add b) ≡ Less
removal-first index a b equal = let order = order_of index in ap (λ o. ordering_then o (ordering_then (nat_cmp 0 1) (value_cmp Binary (last_value order a) (last_value order b)))) equal

-- What stands in an index.

not-true : (t : Bool) → not t ≡ true → t ≡ false
not-true true e = sym e
not-true false e = refl

module _ (format : ℕ) (before : List Entered) where
  abbrev pub stays : List Change → Entered → Bool
  stays done one = not (list_any (is_removed one.entry) done)

  abbrev pub made : List Change → List Entered
  made done = filter (stays done) before ++ map (written_entry format) (added_entries done)

  -- an entry that stood before and was not removed, or one that was added
  abbrev pub Stands : List Change → Entered → Type 0
  Stands done one = (Has one before × (Has (Remove one.entry) done → ⊥)) ⊎ ((e : List Value) × Has (Add e) done × (written_entry format e ≡ one))

  pub made-stands : (done : List Change) (one : Entered) → Has one (made done) → Stands done one
  made-stands done one h =
      elim (has-either (filter (stays done) before) (map (written_entry format) (added_entries done)) one h) [
        | inl kept ↦
            let parts = filter-has (stays done) before one kept in
            let any = list_any (is_removed one.entry) done in
            inl (parts.0, λ r. true-false any (has-any (is_removed one.entry) done (Remove one.entry) r (values-itself one.entry)) (not-true any parts.1))
        | inr added ↦ let from = map-has (written_entry format) (added_entries done) one added in inr (from.0, has-added done from.0 from.1, from.2)
      ]

  pub stands-made : (done : List Change) (one : Entered) → Stands done one → Has one (made done)
  stands-made done one (inl (h, none)) =
      let stay : stays done one ≡ true = elim (decide (list_any (is_removed one.entry) done)) [
        | inl removed ↦ let found = any-has (is_removed one.entry) done removed in absurd (none (subst (λ (c : Change). Has c done) (removed-true one.entry found.0 found.2) found.1))
        | inr fails ↦ ap not fails
      ] in
      has-left (filter (stays done) before) (map (written_entry format) (added_entries done)) one (has-filter (stays done) before one h stay)
  stands-made done one (inr (e, h, same)) =
      has-right (filter (stays done) before) (map (written_entry format) (added_entries done)) one
      (subst (λ (o : Entered). Has o (map (written_entry format) (added_entries done))) same (has-map (written_entry format) (added_entries done) e (added-has done e h)))

-- the entries of members, which are those that they decode to
pub entered-are : (members : List Member) (entered : List Entered) (entries : List (List Value)) → AreEntered members entered → AllZip (λ (member : Member) (entry : List Value). IsRecord member.payload entry) members entries
    → map (λ (one : Entered). one.entry) entered ≡ entries
entered-are [] [] [] are decoded = refl
entered-are [] [] (e ∷ entries) are decoded = absurd decoded
entered-are [] (one ∷ entered) entries are decoded = absurd are
entered-are (m ∷ members) [] entries are decoded = absurd are
entered-are (m ∷ members) (one ∷ entered) [] are decoded = absurd decoded
entered-are (m ∷ members) (one ∷ entered) (e ∷ entries) are decoded =
    ap₂ (λ (v : List Value) (vs : List (List Value)). v ∷ vs) (record-one m.payload one.entry e are.0.0 decoded.0) (entered-are members entered entries are.1 decoded.1)

entered-decoded : (members : List Member) (entered : List Entered) (one : Entered) → AreEntered members entered → Has one entered → IsRecord one.member.payload one.entry
entered-decoded [] [] one are h = absurd h
entered-decoded [] (x ∷ entered) one are h = absurd are
entered-decoded (m ∷ members) [] one are h = absurd are
entered-decoded (m ∷ members) (x ∷ entered) one are (inl e) =
    subst (λ (o : Entered). IsRecord o.member.payload o.entry) e (subst (λ (n : Member). IsRecord n.payload x.entry) (sym are.0.1) are.0.0)
entered-decoded (m ∷ members) (x ∷ entered) one are (inr h) = entered-decoded members entered one are.1 h

-- The changes of an index, of which some are done, one is due and some are left.
module _ (format : ℕ) (index : Index) (old_rows new_rows : List TableRow) (old : List Member) (done : List Change) (change : Change) (left : List Change)
    (of : AreChangesOf format index old_rows new_rows old (done ++ change ∷ left)) where
  abbrev changes : List Change
  changes = done ++ change ∷ left

  pub rising : PairsByRecursion (λ a b. change_cmp index a b ≡ Less) changes
  rising = pairs-at (λ (a b : Change). change_cmp index a b ≡ Less) changes of.changes_are.sorted

  pub done-first : (c : Change) → Has c done → change_cmp index c change ≡ Less
  done-first c h = all-has (λ a. change_cmp index a change ≡ Less) done c (pairs-low (λ a b. change_cmp index a b ≡ Less) done change left rising) h

  -- what goes before the change that is due is done
  pub first-done : (c : Change) → Has c changes → change_cmp index c change ≡ Less → Has c done
  first-done c h less =
      elim (has-either done (change ∷ left) c h) [
        | inl here ↦ here
        | inr later ↦ elim later [
          | inl e ↦ let itself = subst⁻¹ (λ (d : Change). change_cmp index d change ≡ Less) e less in absurd (change-apart index change change itself itself)
          | inr behind ↦ absurd (change-apart index c change less (all-has (λ a. change_cmp index change a ≡ Less) left c (pairs-high (λ a b. change_cmp index a b ≡ Less) done change left rising) behind))
        ]
      ]

  pub not-done : Has change done → ⊥
  not-done h = let less = done-first change h in change-apart index change change less less

  pub is-change : (c : Change) → Has c changes → IsChange index old_rows new_rows c
  is-change c h = of.changes_are.only c (has-to changes c h)

  pub has-change : (c : Change) → IsChange index old_rows new_rows c → Has c changes
  has-change c is = has-from changes c (of.changes_are.all c is)

  pub in-changes : (c : Change) → Has c done → Has c changes
  in-changes c h = has-left done (change ∷ left) c h

  pub due-change : Has change changes
  due-change = has-right done (change ∷ left) change (inl refl)

  pub stored-of : (c : Change) → Has c changes → HaveRecord format (changed_entry c)
  stored-of c h = all-has (λ (d : Change). HaveRecord format (changed_entry d)) changes c of.stored h

  changed-stands : (c : Change) → IsChange index old_rows new_rows c → Contains (entries_of index old_rows) (changed_entry c) ⊎ Contains (entries_of index new_rows) (changed_entry c)
  changed-stands (Remove e) is = inl is.0
  changed-stands (Add e) is = inr is.0

  pub changed-many : (c : Change) → Has c changes → length (changed_entry c) ≡ length (order_of index) + 1
  changed-many c h =
      elim (changed-stands c (is-change c h)) [
        | inl old ↦ entry-many index old_rows (changed_entry c) old
        | inr new ↦ entry-many index new_rows (changed_entry c) new
      ]

  -- The entries of the index before all changes.
  module _ (before : List Entered) (are : AreEntered old before) where
    before-are : map (λ (one : Entered). one.entry) before ≡ of.held.entries
    before-are = entered-are old before of.held.entries are of.held.decoded

    pub before-held : (one : Entered) → Has one before → Has one.entry of.held.entries
    before-held one h = subst (Has one.entry) before-are (has-map (λ (o : Entered). o.entry) before one h)

    pub before-old : (one : Entered) → Has one before → Contains (entries_of index old_rows) one.entry
    before-old one h =
        Contains-permutation of.held.entries (entries_of index old_rows) one.entry (IsPermutation-sym (entries_of index old_rows) of.held.entries of.held.is_projection.all)
        (has-to of.held.entries one.entry (before-held one h))

    pub old-before : (e : List Value) → Contains (entries_of index old_rows) e → (one : Entered) × Has one before × (one.entry ≡ e)
    old-before e h =
        map-has (λ (o : Entered). o.entry) before e
        (subst⁻¹ (Has e) before-are (has-from of.held.entries e (Contains-permutation (entries_of index old_rows) of.held.entries e of.held.is_projection.all h)))

    pub stands-decoded : (one : Entered) → Stands format before done one → IsRecord one.member.payload one.entry
    stands-decoded one (inl (h, none)) = entered-decoded old before one are h
    stands-decoded one (inr (e, h, same)) =
        subst (λ (o : Entered). IsRecord o.member.payload o.entry) same (canonical_record_read format e (stored-of (Add e) (in-changes (Add e) h)))

    pub stands-many : (one : Entered) → Stands format before done one → length one.entry ≡ length (order_of index) + 1
    stands-many one (inl (h, none)) = entry-many index old_rows one.entry (before-old one h)
    stands-many one (inr (e, h, same)) = subst (λ (o : Entered). length o.entry ≡ length (order_of index) + 1) same (changed-many (Add e) (in-changes (Add e) h))

    unmapped : (xs : List Entered) → PairsByRecursion (IsBefore index) (map (λ (one : Entered). one.entry) xs) → PairsByRecursion (λ (a b : Entered). IsBefore index a.entry b.entry) xs
    unmapped [] pairs = tt
    unmapped (x ∷ xs) pairs = (
      has-all (λ (y : Entered). IsBefore index x.entry y.entry) xs (λ y h. all-has (IsBefore index x.entry) (map (λ (one : Entered). one.entry) xs) y.entry pairs.0 (has-map (λ (one : Entered). one.entry) xs y h)),
      unmapped xs pairs.1,
    )

    pub before-sorted : PairsByRecursion (λ (a b : Entered). IsBefore index a.entry b.entry) before
    before-sorted = unmapped before (subst⁻¹ (PairsByRecursion (IsBefore index)) before-are (pairs-at (IsBefore index) of.held.entries of.held.is_projection.sorted))

  -- Behind the changes that are done an index has these members.
  module _ (now : List Member) (mid : IsIndexAfter format index done old now) where
    pub after-stands : (one : Entered) → Has one mid.after → Stands format mid.before done one
    after-stands one h =
        let all = made format mid.before done in
        made-stands format mid.before done one (has-from all one (Contains-permutation mid.after all one (IsPermutation-sym all mid.after mid.all) (has-to mid.after one h)))

    pub stands-after : (one : Entered) → Stands format mid.before done one → Has one mid.after
    stands-after one s = let all = made format mid.before done in has-from mid.after one (Contains-permutation all mid.after one mid.all (has-to all one (stands-made format mid.before done one s)))

    pub after-decoded : (one : Entered) → Has one mid.after → IsRecord one.member.payload one.entry
    after-decoded one h = stands-decoded mid.before mid.are_before one (after-stands one h)

    pub after-rises : PairsByRecursion (λ (a b : Entered). IsBefore index a.entry b.entry) mid.after
    after-rises = pairs-at (λ (a b : Entered). IsBefore index a.entry b.entry) mid.after mid.sorted
