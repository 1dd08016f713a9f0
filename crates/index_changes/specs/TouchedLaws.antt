-- The changes of an index between the rows that are touched are those between all rows: crates above cite these facts in their proofs.
use Rattle.std.proofs.Common.{◌≡◌, ℤ, List, [], ◌∷◌, ◌++◌, map, sym, ap, ap₂, ◌∙◌, subst, inl, inr}
use Rattle.std.specs.Prelude.{Contains, slice_index_or}
use Rattle.rbu_value.specs.declared.value.Value.{Value}
use Rattle.rbu_value.specs.declared.value.Value.TheVariants.{Null, Int}
use Rattle.schema_spec.specs.declared.schema.Index.{Index}
use Rattle.database_spec.specs.Rows.{TableRow}
use Rattle.database_spec.specs.Keys.{order_of, last_value, entry_of}
use Rattle.prepared_spec.specs.declared.violation.Change.{Change}
use Rattle.prepared_spec.specs.declared.violation.Change.TheVariants.{Remove, Add}
use Rattle.prepared_spec.specs.StepFaults.{entries_of, IsChange, AreChanges}
use Rattle.prepared_spec.specs.MembersLaws.{has-from, has-to, has-map, map-has}
use Rattle.prepared_laws.specs.ChangesMadeLaws.{last-is}
use Rattle.index_changes.specs.Pairs.{StandsAmong, AreTouched}

-- what is touched is so from either side
other-side : (old new touched_old touched_new : List TableRow) → AreTouched old new touched_old touched_new → AreTouched new old touched_new touched_old
other-side old new touched_old touched_new touched = record {
  old_stand = touched.new_stand;
  new_stand = touched.old_stand;
  old_rest = touched.new_rest;
  new_rest = touched.old_rest;
  old_whole = touched.new_whole;
  new_whole = touched.old_whole;
}

module _ (index : Index) where
  entry-same : (a b : TableRow) → a.rowid ≡ b.rowid → a.values ≡ b.values → entry_of index a ≡ entry_of index b
  entry-same a b rowid values = ap₂ (λ (v : List Value) (z : ℤ). map (λ column. slice_index_or v column.0 Null) index.columns ++ Int z ∷ []) values rowid

  -- entries that are one are of one rowid
  pub entry-rowid : (a b : TableRow) → entry_of index a ≡ entry_of index b → a.rowid ≡ b.rowid
  entry-rowid a b same =
      let both : Int a.rowid ≡ Int b.rowid = sym (last-is index a) ∙ ap (last_value (order_of index)) same ∙ last-is index b in
      let one : a.rowid ≡ b.rowid = cc in one

  entry-stands : (rows : List TableRow) (row : TableRow) → StandsAmong rows row → Contains (entries_of index rows) (entry_of index row)
  entry-stands rows row (other, stands, rowid, values) =
      subst (Contains (entries_of index rows)) (entry-same other row rowid values) (has-to (entries_of index rows) (entry_of index other) (has-map (entry_of index) rows other (has-from rows other stands)))

  entry-row : (rows : List TableRow) (entry : List Value) → Contains (entries_of index rows) entry → (row : TableRow) × Contains rows row × (entry_of index row ≡ entry)
  entry-row rows entry stands =
      let found = map-has (entry_of index) rows entry (has-from (entries_of index rows) entry stands) in (found.0, has-to rows found.0 found.1, found.2)

  -- an entry stands on one side and not on the other
  abbrev Goes : List TableRow → List TableRow → List Value → Type 0
  Goes old new entry = Contains (entries_of index old) entry × ¬ Contains (entries_of index new) entry

  goes-wide : (old new touched_old touched_new : List TableRow) → AreTouched old new touched_old touched_new → (entry : List Value) → Goes touched_old touched_new entry → Goes old new entry
  goes-wide old new touched_old touched_new touched entry (stood, gone) =
      let found = entry-row touched_old entry stood in (
        subst (Contains (entries_of index old)) found.2 (entry-stands old found.0 (touched.old_stand found.0 found.1)),
        λ stands.
            let other = entry-row new entry stands in
            let rowid = entry-rowid other.0 found.0 (other.2 ∙ sym found.2) in
            gone (subst (Contains (entries_of index touched_new)) other.2 (entry-stands touched_new other.0 (touched.new_whole found.0 other.0 found.1 other.1 rowid))),
      )

  goes-narrow : (old new touched_old touched_new : List TableRow) → AreTouched old new touched_old touched_new → (entry : List Value) → Goes old new entry → Goes touched_old touched_new entry
  goes-narrow old new touched_old touched_new touched entry (stood, gone) =
      let found = entry-row old entry stood in (
        elim (touched.old_rest found.0 found.1) [
          | inl among ↦ subst (Contains (entries_of index touched_old)) found.2 (entry-stands touched_old found.0 among)
          | inr stays ↦ absurd (gone (subst (Contains (entries_of index new)) found.2 (entry-stands new found.0 stays)))
        ],
        λ stands.
            let other = entry-row touched_new entry stands in
            gone (subst (Contains (entries_of index new)) other.2 (entry-stands new other.0 (touched.new_stand other.0 other.1))),
      )

  module _ (old new touched_old touched_new : List TableRow) (touched : AreTouched old new touched_old touched_new) where
    change-wide : (change : Change) → IsChange index touched_old touched_new change → IsChange index old new change
    change-wide (Remove entry) is = goes-wide old new touched_old touched_new touched entry is
    change-wide (Add entry) is = goes-wide new old touched_new touched_old (other-side old new touched_old touched_new touched) entry is

    change-narrow : (change : Change) → IsChange index old new change → IsChange index touched_old touched_new change
    change-narrow (Remove entry) is = goes-narrow old new touched_old touched_new touched entry is
    change-narrow (Add entry) is = goes-narrow new old touched_new touched_old (other-side old new touched_old touched_new touched) entry is

    -- the changes between the rows that are touched are all
    pub touched-changes : (changes : List Change) → AreChanges index touched_old touched_new changes → AreChanges index old new changes
    touched-changes changes are = record { only = λ change has. change-wide change (are.only change has); all = λ change is. are.all change (change-narrow change is); sorted = are.sorted }
