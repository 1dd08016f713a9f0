-- What records hold of rows that are written: crates above cite these facts in their proofs.
use Rattle.std.proofs.Common.{◌≡◌, ℕ, ℤ, zero, suc, Bool, true, false, List, [], ◌∷◌, length, Option, Some, None, if◌then◌else◌, refl, sym, ap, ◌∙◌, subst}
use Rattle.std.proofs.Math.Path.{subst⁻¹}
use Rattle.std.proofs.Math.ListN.{set}
use Rattle.std.proofs.lemmas.List.{length-set, set-set}
use Rattle.std.specs.List.{AllByRecursion}
use Rattle.rbu_value.specs.declared.value.Value.{Value}
use Rattle.rbu_value.specs.declared.value.Value.TheVariants.{Null, Int}
use Rattle.rbu_rows.specs.declared.control.Control.{Control}
use Rattle.rbu_rows.specs.declared.control.Control.TheVariants.{Insert, Replace, Delete, Update}
use Rattle.record_codec.specs.Records.{IsStored}
use Rattle.schema_spec.specs.declared.schema.Table.{Table}
use Rattle.database_spec.specs.Rows.{TableRow, with_rowid}
use Rattle.prepared_spec.specs.Tables.{marked, met_row, same_values, stored_values, with_values, written_row}

abbrev pub AreStored : List Value → Type 0
AreStored values = AllByRecursion IsStored values

-- what is stored has no rowid, whichever stood there
pub stored-without : (column : Option ℕ) (rowid : ℤ) (values : List Value) → stored_values column (with_rowid column rowid values) ≡ stored_values column values
stored-without None rowid values = refl
stored-without (Some column) rowid values = set-set values column (Int rowid) Null

marked-stored : (marks : List Bool) (values old : List Value) → AreStored values → AreStored old → AreStored (marked marks values old)
marked-stored [] values old all olds = olds
marked-stored (mark ∷ marks) [] old all olds = olds
marked-stored (mark ∷ marks) (a ∷ values) [] all olds = olds
marked-stored (true ∷ marks) (a ∷ values) (b ∷ old) all olds = (all.0, marked-stored marks values old all.1 olds.1)
marked-stored (false ∷ marks) (a ∷ values) (b ∷ old) all olds = (olds.0, marked-stored marks values old all.1 olds.1)

-- a place that is NULL in both is NULL in what is marked
marked-set : (marks : List Bool) (values old : List Value) (at : ℕ) → marked marks (set values at Null) (set old at Null) ≡ set (marked marks values old) at Null
marked-set [] values old at = refl
marked-set (mark ∷ marks) [] old at = refl
marked-set (mark ∷ marks) (a ∷ values) [] zero = refl
marked-set (mark ∷ marks) (a ∷ values) [] (suc at) = refl
marked-set (true ∷ marks) (a ∷ values) (b ∷ old) zero = refl
marked-set (false ∷ marks) (a ∷ values) (b ∷ old) zero = refl
marked-set (mark ∷ marks) (a ∷ values) (b ∷ old) (suc at) = ap (λ (vs : List Value). (if mark then a else b) ∷ vs) (marked-set marks values old at)

marked-many : (marks : List Bool) (values old : List Value) → length (marked marks values old) ≡ length old
marked-many [] values old = refl
marked-many (mark ∷ marks) [] old = refl
marked-many (mark ∷ marks) (a ∷ values) [] = refl
marked-many (mark ∷ marks) (a ∷ values) (b ∷ old) = ap suc (marked-many marks values old)

pub with_rowid-many : (column : Option ℕ) (rowid : ℤ) (values : List Value) → length (with_rowid column rowid values) ≡ length values
with_rowid-many None rowid values = refl
with_rowid-many (Some column) rowid values = length-set values column (Int rowid)

pub stored-many : (column : Option ℕ) (values : List Value) → length (stored_values column values) ≡ length values
stored-many None values = refl
stored-many (Some column) values = length-set values column Null

-- values with the rowid are those that are stored, and the rowid
pub stored-rowid : (column : Option ℕ) (rowid : ℤ) (values : List Value) → with_rowid column rowid values ≡ with_rowid column rowid (stored_values column (with_rowid column rowid values))
stored-rowid None rowid values = refl
stored-rowid (Some column) rowid values =
    sym (ap (λ (vs : List Value). set vs column (Int rowid)) (set-set values column (Int rowid) Null) ∙ set-set values column Null (Int rowid))

-- records can hold what is stored of these values
abbrev pub CanStore : Table → List Value → Type 0
CanStore table values = AreStored (stored_values table.rowid_column values)

module _ (format : ℕ) (table : Table) where
  marked-can : (marks : List Bool) (values old : List Value) → CanStore table values → CanStore table old → CanStore table (marked marks values old)
  marked-can marks values old = by table.rowid_column
    where
      by : (column : Option ℕ) → AreStored (stored_values column values) → AreStored (stored_values column old) → AreStored (stored_values column (marked marks values old))
      by None all olds = marked-stored marks values old all olds
      by (Some column) all olds = subst (λ (vs : List Value). AreStored vs) (marked-set marks values old column) (marked-stored marks (set values column Null) (set old column Null) all olds)

  -- so it is with a row that is written
  pub written-can : (rowid : ℤ) (values : List Value) → CanStore table values → CanStore table (written_row format table rowid values).values
  written-can rowid values all = subst⁻¹ (λ (v : List Value). AreStored v) (stored-without table.rowid_column rowid values) all

  pub written-many : (rowid : ℤ) (values : List Value) → length (written_row format table rowid values).values ≡ length values
  written-many rowid values = with_rowid-many table.rowid_column rowid values

  -- what holds of the values of a row behind a prepared row that meets it, where it holds of those that are written
  with-values : (P : List Value → Type 0) (row : TableRow) (values : List Value) → P row.values → P (written_row format table row.rowid values).values → P (with_values format table row values).values
  with-values P row values olds all = by (same_values row.values (with_rowid table.rowid_column row.rowid values))
    where
      by : (t : Bool) → P (if t then row else written_row format table row.rowid values).values
      by true = olds
      by false = all

  met-values : (P : List Value → Type 0) (row : TableRow) (control : Control) (values : List Value) (after : TableRow) → met_row format table row control values ≡ Some after → P row.values
      → P (written_row format table row.rowid values).values → ((marks : List Bool) → P (written_row format table row.rowid (marked marks values row.values)).values) → P after.values
  met-values P row Insert values after e olds all marks = let same : row ≡ after = cc in subst (λ (r : TableRow). P r.values) same olds
  met-values P row Replace values after e olds all marks = let same : with_values format table row values ≡ after = cc in subst (λ (r : TableRow). P r.values) same (with-values P row values olds all)
  met-values P row Delete values after e olds all marks = absurd (let h : ⊥ = cc in h)
  met-values P row (Update changes) values after e olds all marks =
      let same : with_values format table row (marked changes values row.values) ≡ after = cc in
      subst (λ (r : TableRow). P r.values) same (with-values P row (marked changes values row.values) olds (marks changes))

  pub met-can : (row : TableRow) (control : Control) (values : List Value) (after : TableRow) → met_row format table row control values ≡ Some after → CanStore table row.values → CanStore table values → CanStore table after.values
  met-can row control values after e olds all =
      met-values (CanStore table) row control values after e olds (written-can row.rowid values all)
      (λ marks. written-can row.rowid (marked marks values row.values) (marked-can marks values row.values all olds))

  pub met-many : (row : TableRow) (control : Control) (values : List Value) (after : TableRow) (n : ℕ) → met_row format table row control values ≡ Some after → length row.values ≡ n → length values ≡ n → length after.values ≡ n
  met-many row control values after n e olds all =
      met-values (λ (vs : List Value). length vs ≡ n) row control values after e olds (written-many row.rowid values ∙ all)
      (λ marks. written-many row.rowid (marked marks values row.values) ∙ marked-many marks values row.values ∙ olds)
