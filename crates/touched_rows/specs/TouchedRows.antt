-- The rows that a group of batches touches: those that its prepared rows meet, and those that they make (The RBU Extension, section 2.1).
use Rattle.std.specs.Prelude.{◌≡◌, ◌⊎◌, ℕ, ℤ, ◌+◌, ◌-◌, ◌<ℤ◌, Bool, false, IsTrue, if◌then◌else◌, List, [], ◌∷◌, ◌++◌, length, map, replicate, sum_by, AllPairs, Contains, Option, Some, None, is_some}
use Rattle.std.specs.List.{AllByRecursion, AllZip, list_any}
use Rattle.rbu_value.specs.declared.value.Value.{Value}
use Rattle.rbu_rows.specs.declared.prepared.Prepared.{Prepared}
use Rattle.schema_spec.specs.declared.schema.Table.{Table}
use Rattle.database_spec.specs.Rows.{TableRow, with_rowid}
use Rattle.prepared_spec.specs.RowKeys.{meets}
use Rattle.prepared_spec.specs.Tables.{is_new, new_rows as made_rows, count_new, greatest_of, IsAfterBatch, IsAfter}
use Rattle.prepared_spec.specs.declared.violation.Violation.{Violation}
use Rattle.index_changes.specs.declared.pairs.OldNew.{OldNew}

-- the rowid stands in the place of the INTEGER PRIMARY KEY
abbrev pub IsPlaced : Table → TableRow → Type 0
IsPlaced table row = with_rowid table.rowid_column row.rowid row.values ≡ row.values

abbrev pub ArePlaced : Table → List TableRow → Type 0
ArePlaced table rows = AllByRecursion (IsPlaced table) rows

-- a prepared row meets the row of this rowid
abbrev pub IsMet : Table → List TableRow → List Prepared → ℤ → Type 0
IsMet table before rows rowid = (row : TableRow) × Contains before row × (row.rowid ≡ rowid) × ((prepared : Prepared) × Contains rows prepared × IsTrue (meets table row prepared))

-- or makes it
abbrev pub IsMade : ℕ → Table → ℤ → ℕ → List TableRow → List Prepared → ℤ → Type 0
IsMade format table g taken before rows rowid = (row : TableRow) × Contains (made_rows format table g taken before rows) row × (row.rowid ≡ rowid)

-- the rowid is touched by one of the batches, each over the rows as they stand before it
abbrev pub IsTouchedFrom : ℕ → Table → ℤ → ℕ → List TableRow → List (List Prepared) → ℤ → Type 0
IsTouchedFrom format table g taken before [] rowid = ⊥
IsTouchedFrom format table g taken before (rows ∷ batches) rowid =
    (IsMet table before rows rowid ⊎ IsMade format table g taken before rows rowid)
    ⊎ ((between : List TableRow) × IsAfterBatch format table g taken before rows between × IsTouchedFrom format table g (taken + count_new table before rows) between batches rowid)

abbrev pub IsTouched : ℕ → Table → List TableRow → List (List Prepared) → ℤ → Type 0
IsTouched format table old batches rowid = IsTouchedFrom format table (greatest_of old) 0 old batches rowid

-- the row of a rowid among others, or none
pub record IsSide (rows : List TableRow) (rowid : ℤ) (side : Option (ℤ × List Value)) : Type 0 where
  pub only : (row : ℤ × List Value) → side ≡ Some row → (other : TableRow) × Contains rows other × (other.rowid ≡ rowid) × ((other.rowid, other.values) ≡ row)
  pub all : (other : TableRow) → Contains rows other → other.rowid ≡ rowid → side ≡ Some (other.rowid, other.values)

-- The old and the new row of each rowid that batches touch, in order of rowid, so many rows being new before them.
pub record AreTouchedPairsFrom (format : ℕ) (table : Table) (g : ℤ) (taken : ℕ) (old : List TableRow) (batches : List (List Prepared)) (after : List TableRow) (pairs : List OldNew) : Type 0 where
  pub rowids : List ℤ
  pub rise : AllPairs (λ (a b : ℤ). a <ℤ b) rowids
  pub touched : (rowid : ℤ) → Contains rowids rowid → IsTouchedFrom format table g taken old batches rowid
  pub all : (rowid : ℤ) → IsTouchedFrom format table g taken old batches rowid → Contains rowids rowid
  pub sides : AllZip (λ (pair : OldNew) (rowid : ℤ). IsSide old rowid pair.old × IsSide after rowid pair.new) pairs rowids

-- the old and the new row of each rowid that a group touches
abbrev pub AreTouchedPairs : ℕ → Table → List TableRow → List (List Prepared) → List TableRow → List OldNew → Type 0
AreTouchedPairs format table old batches after pairs = AreTouchedPairsFrom format table (greatest_of old) 0 old batches after pairs

-- no prepared row of a batch has a fault
abbrev pub NoFaults : List Prepared → List (Option Violation) → Type 0
NoFaults rows faults = AllZip (λ (prepared : Prepared) (fault : Option Violation). fault ≡ None) rows faults

-- the prepared rows of a batch before the first that has a fault
abbrev pub rows_before_fault : List Prepared → List (Option Violation) → List Prepared
rows_before_fault (prepared ∷ rows) (None ∷ faults) = prepared ∷ rows_before_fault rows faults
rows_before_fault _ _ = []

-- the batches of a group up to its first fault, the last of them cut there
abbrev pub batches_before_fault : List (List Prepared) → List (List (Option Violation)) → List (List Prepared)
batches_before_fault (rows ∷ batches) (faults ∷ later) = rows_before_fault rows faults ∷ (if list_any is_some faults then [] else batches_before_fault batches later)
batches_before_fault _ _ = []

-- of each prepared row of a group, in the order of the steps, whether it makes a row; from the first fault on none does
abbrev pub AreMade : ℕ → Table → ℤ → ℕ → List TableRow → List (List Prepared) → List (List Prepared) → List Bool → Type 0
AreMade format table g taken before [] fronts made = made ≡ []
AreMade format table g taken before (rows ∷ batches) [] made = made ≡ replicate (sum_by length (rows ∷ batches)) false
AreMade format table g taken before (rows ∷ batches) (front ∷ fronts) made =
    (between : List TableRow) × (later : List Bool) × IsAfterBatch format table g taken before front between × AreMade format table g (taken + count_new table before front) between batches fronts later
    × (made ≡ map (is_new table before) front ++ (replicate (length rows - length front) false ++ later))

-- What a group touches of a table: the rowid from which its new rows count, which of its prepared rows make one, and the rows of each rowid before and after. From the first step with a fault on it touches nothing.
pub record Touches (format : ℕ) (table : Table) (old : List TableRow) (batches : List (List Prepared)) (faults : List (List (Option Violation))) (g : ℤ) (made : List Bool) (pairs : List OldNew) : Type 0 where
  pub g_is : g ≡ greatest_of old
  pub made_are : AreMade format table g 0 old batches (batches_before_fault batches faults) made
  pub after : List TableRow
  pub after_is : IsAfter format table old (batches_before_fault batches faults) after
  pub pairs_are : AreTouchedPairs format table old (batches_before_fault batches faults) after pairs

-- Rows of a table, parted into some and the rest.
pub record AreParted (rows part rest : List TableRow) : Type 0 where
  pub each : (row : TableRow) → Contains rows row → Contains part row ⊎ Contains rest row
  pub part_of : (row : TableRow) → Contains part row → Contains rows row
  pub rest_of : (row : TableRow) → Contains rest row → Contains rows row

-- no prepared row of these batches meets one of the rows
abbrev pub AreUnmet : Table → List TableRow → List (List Prepared) → Type 0
AreUnmet table rest batches = (row : TableRow) (rows : List Prepared) (prepared : Prepared) → Contains rest row → Contains batches rows → Contains rows prepared → ¬ IsTrue (meets table row prepared)
