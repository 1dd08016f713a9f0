-- What one step of a pass makes of the rows of a table (The RBU Extension, section 2.1), and where a pass stands in a batch.
use Rattle.std.specs.Prelude.{◌≡◌, ◌⊎◌, ◌≢◌, ◌↔◌, ℕ, ℤ, suc, ◌+◌, ◌≤◌, ◌<ℤ◌, false, true, if◌then◌else◌, List, [], ◌++◌, ◌∷◌, length, map, sum_by, take, AllPairs, Contains, Some}
use Rattle.std.specs.List.{AllByRecursion, AllZip}
use Rattle.std.specs.declared.cmp.Ordering.TheVariants.{Less}
use Rattle.rbu_rows.specs.declared.prepared.Batch.{Batch}
use Rattle.rbu_rows.specs.declared.prepared.Prepared.{Prepared}
use Rattle.schema_spec.specs.declared.schema.Table.{Table}
use Rattle.tree_spec.specs.Trees.{Member}
use Rattle.database_spec.specs.declared.catalog.NamedEntry.{NamedEntry}
use Rattle.database_spec.specs.Rows.{TableRow}
use Rattle.database_spec.specs.ListsLaws.{PairsByRecursion}
use Rattle.prepared_spec.specs.RowKeys.{IsInKeyOrder, meets, key_cmp}
use Rattle.prepared_spec.specs.Tables.{greatest_of, is_new, count_new, IsAfter, IsAfterBatch}
use Rattle.prepared_spec.specs.Outcomes.{row_member}
use Rattle.prepared_spec.specs.Plans.{firsts}
use Rattle.prepared_spec.specs.StepRecords.{put_row}
use Rattle.prepared_laws.specs.TablesMadeLaws.{HasRowidColumn, HasRowidKey, IsReached, IsUsable}
use Rattle.prepared_laws.specs.TransactionsLaws.{IsUsableGroup}

-- What a step leaves of the rows of a table as they stand when it is due, so many rows of the group being new: the row that it puts, and each row that its prepared row does not meet.
pub record IsStepped (format : ℕ) (table : Table) (g : ℤ) (taken : ℕ) (prepared : Prepared) (old new : List TableRow) : Type 0 where
  pub put : (row : TableRow) → put_row format table g taken old prepared ≡ Some row → Contains new row
  pub kept : (row : TableRow) → Contains old row → meets table row prepared ≡ false → Contains new row
  pub only : (row : TableRow) → Contains new row → (put_row format table g taken old prepared ≡ Some row) ⊎ (Contains old row × (meets table row prepared ≡ false))
  pub rise : AllPairs (λ (a b : TableRow). a.rowid <ℤ b.rowid) new

-- the same of the members of the table's tree behind the step
abbrev pub AreStepped : ℕ → Table → ℤ → ℕ → Prepared → List TableRow → List Member → Type 0
AreStepped format table g taken prepared old members = (new : List TableRow) × (members ≡ map row_member new) × IsStepped format table g taken prepared old new

-- the prepared row meets the row of this rowid, where there is one, and no other
abbrev pub MeetsRowid : Table → List TableRow → Prepared → ℤ → Type 0
MeetsRowid table rows prepared rowid = (row : TableRow) → Contains rows row → (row.rowid ≡ rowid) ↔ (meets table row prepared ≡ true)

-- how many rows of the group are new behind a step
abbrev pub taken_behind : Table → List TableRow → Prepared → ℕ → ℕ
taken_behind table rows prepared taken = if is_new table rows prepared then suc taken else taken

-- What prepared rows of a batch in key order are for a table: they can be used, and the table stands as they find it, so many rows of the group being new before them.
pub record AreDue (table : Table) (g : ℤ) (start : ℕ) (before : List TableRow) (rows : List Prepared) : Type 0 where
  pub column : HasRowidColumn table
  pub shape : HasRowidKey table
  pub reached : IsReached table g start before
  pub usable : AllByRecursion (IsUsable table) rows
  pub ordered : PairsByRecursion (λ (a b : Prepared). key_cmp table a.key b.key ≡ Less) rows

-- A table stands behind the first prepared rows of a batch: before that batch it had these rows, so many of the group being new then, and so many are now.
pub record IsInBatch (format : ℕ) (table : Table) (g : ℤ) (start : ℕ) (before : List TableRow) (done : List Prepared) (taken : ℕ) (now : List TableRow) : Type 0 where
  pub after : IsAfterBatch format table g start before done now
  pub taken_is : taken ≡ start + count_new table before done

-- Before a batch of a group, behind all earlier ones, a table has these rows, and so many of the group are new.
abbrev pub IsBeforeBatch : ℕ → Table → ℤ → ℕ → List TableRow → List (List Prepared) → ℕ → List TableRow → Type 0
IsBeforeBatch format table g taken old [] start before = (before ≡ old) × (start ≡ taken)
IsBeforeBatch format table g taken old (rows ∷ earlier) start before =
    (between : List TableRow) × IsAfterBatch format table g taken old rows between × IsBeforeBatch format table g (taken + count_new table old rows) between earlier start before

-- Behind batches of a group so many of its rows are new, where so many were before them.
abbrev pub IsTaken : ℕ → Table → ℤ → ℕ → List TableRow → List (List Prepared) → ℕ → Type 0
IsTaken format table g taken before [] count = count ≡ taken
IsTaken format table g taken before (rows ∷ batches) count =
    (between : List TableRow) × IsAfterBatch format table g taken before rows between × IsTaken format table g (taken + count_new table before rows) between batches count

-- how many steps batches have
abbrev pub batch_steps : List Batch → ℕ
batch_steps batches = sum_by (λ batch. length batch.rows) batches

abbrev pub AreInKeyOrder : Table → List Batch → List (List Prepared) → Type 0
AreInKeyOrder table batches ordered = AllZip (λ batch rows. IsInKeyOrder table batch.rows rows) batches ordered

-- The table of a group that can be used stands behind the steps of its earlier batches and so many of this one, and so many of its rows are new.
pub record IsMidGroup (format : ℕ) (lists : List (ℕ × List Member)) (named : NamedEntry) (earlier : List Batch) (batch : Batch) (later : List Batch) (from taken : ℕ) (rows : List TableRow) : Type 0 where
  pub group : IsUsableGroup lists named (earlier ++ batch ∷ later)
  pub ordered : List (List Prepared)
  pub in_order : AreInKeyOrder group.table (earlier ++ batch ∷ later) ordered
  pub few : from ≤ length batch.rows
  pub behind : IsAfter format group.table group.old (firsts (batch_steps earlier + from) ordered) rows
  pub new_rows : IsTaken format group.table (greatest_of group.old) 0 group.old (firsts (batch_steps earlier + from) ordered) taken

-- A table stands behind so many prepared rows of a batch, behind the earlier batches of its group: so many of the group were new and these rows stood there before the batch, and so many are new now.
pub record StandsInBatch (format : ℕ) (table : Table) (g : ℤ) (old : List TableRow) (earlier : List Batch) (rows : List Prepared) (from taken : ℕ) (now : List TableRow) : Type 0 where
  pub batches : List (List Prepared)
  pub in_order : AreInKeyOrder table earlier batches
  pub start : ℕ
  pub before : List TableRow
  pub reached : IsBeforeBatch format table g 0 old batches start before
  pub due : AreDue table g start before rows
  pub behind : IsInBatch format table g start before (take from rows) taken now
