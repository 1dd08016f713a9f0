-- What a transaction of all prepared rows comes to, and the database midway (The RBU Extension, section 2; that it is one transaction of all batches is this project's rule).
use Rattle.std.specs.Prelude.{◌≡◌, ℕ, pos, ◌+◌, ◌-◌, ◌%◌, ◌^◌, ◌==◌, not, Bool, false, if◌then◌else◌, List, [], ◌∷◌, ◌++◌, map, filter, flat_map, AllPairs, IsPermutation, Some, None}
use Rattle.std.specs.List.{list_any, AllZip}
use Rattle.byte_fields.specs.Numbers.{number_at, with_number_at}
use Rattle.rbu_value.specs.declared.value.Value.{Value}
use Rattle.format_spec.specs.Record.{IsRecord, canonical_record}
use Rattle.rbu_rows.specs.declared.prepared.Batch.{Batch}
use Rattle.schema_spec.specs.declared.schema.Index.{Index}
use Rattle.tree_spec.specs.Trees.{Member}
use Rattle.database_spec.specs.declared.catalog.Catalog.{Catalog}
use Rattle.database_spec.specs.Rows.{TableRow}
use Rattle.database_spec.specs.Keys.{IsBefore, IsProjection}
use Rattle.database_spec.specs.Databases.{Database, list_at}
use Rattle.prepared_spec.specs.declared.violation.Violation.{Violation}
use Rattle.prepared_spec.specs.declared.violation.Change.{Change}
use Rattle.prepared_spec.specs.declared.violation.Change.TheVariants.{Remove, Add}
use Rattle.prepared_spec.specs.Tables.{same_values, IsAfter}
use Rattle.prepared_spec.specs.Plans.{IndexPlan, TablePlan, ArePlans, row_steps, plan_steps, all_faults, last_fault, firsts}

-- fields of a header without offsets 28 to 39: those behind lie 12 bytes before their offsets (Database File Format, section 1.3)
abbrev pub kept_counter : ℕ
kept_counter = 24

abbrev pub kept_cookie : ℕ
kept_cookie = 28

abbrev pub kept_format : ℕ
kept_format = 32

abbrev pub kept_valid_for : ℕ
kept_valid_for = 80

-- the schema format of a database; 0 is read as 1
abbrev pub format_in : Database → ℕ
format_in db = if number_at kept_format 4 db.header == 0 then 1 else number_at kept_format 4 db.header

-- one more, modulo 2^32
abbrev pub raised : ℕ → List ℕ → ℕ
raised at header = (number_at at 4 header + 1) % 2 ^ 32

-- the header behind a transaction: the change counter and the schema cookie are one more, and the size is valid for the new counter
abbrev pub next_header : List ℕ → List ℕ
next_header header =
    with_number_at kept_valid_for 4 (raised kept_counter header) (with_number_at kept_cookie 4 (raised kept_cookie header) (with_number_at kept_counter 4 (raised kept_counter header) header))

-- a row as a member of its tree
abbrev pub row_member : TableRow → Member
row_member row = record { rowid = row.rowid; payload = row.payload }

-- an entry of an index with the member that holds it
pub record Entered : Type 0 where
  pub entry : List Value
  pub member : Member

-- the members of an index's tree as entries
abbrev pub AreEntered : List Member → List Entered → Type 0
AreEntered members entered = AllZip (λ member one. IsRecord member.payload one.entry × (one.member ≡ member)) members entered

-- an entry that is written has the canonical record
abbrev pub written_entry : ℕ → List Value → Entered
written_entry format entry = record { entry = entry; member = record { rowid = pos 0; payload = canonical_record format entry } }

abbrev pub is_removed : List Value → Change → Bool
is_removed entry (Remove other) = same_values entry other
is_removed entry (Add other) = false

abbrev pub added_entries : List Change → List (List Value)
added_entries [] = []
added_entries (Remove entry ∷ changes) = added_entries changes
added_entries (Add entry ∷ changes) = entry ∷ added_entries changes

-- The members of an index after changes: the entries that are not removed with their records, and those that are added, in order.
pub record IsIndexAfter (format : ℕ) (index : Index) (changes : List Change) (old new : List Member) : Type 0 where
  pub before : List Entered
  pub are_before : AreEntered old before
  pub after : List Entered
  pub all : IsPermutation (filter (λ one. not (list_any (is_removed one.entry) changes)) before ++ map (written_entry format) (added_entries changes)) after
  pub sorted : AllPairs (λ (a b : Entered). IsBefore index a.entry b.entry) after
  pub members_are : new ≡ map (λ one. one.member) after

-- The lists of a plan's trees behind its first n steps: the table has the rows after its prepared rows among them, and each index the changes among them.
pub record TreesAfter : Type 0 where
  pub table : List Member
  pub indexes : List (List Member)

abbrev pub IsIndexList : ℕ → List (ℕ × List Member) → IndexPlan × List Change → List Member → Type 0
IsIndexList format lists plan members = IsIndexAfter format plan.0.index plan.1 (list_at lists plan.0.root) members

abbrev pub beside : {A B : Type 0} → List A → List B → List (A × B)
beside (a ∷ xs) (b ∷ ys) = (a, b) ∷ beside xs ys
beside _ ys = []

-- the changes of each index among the first n steps
abbrev pub changes_done : ℕ → TablePlan → List (IndexPlan × List Change)
changes_done n plan = beside plan.indexes (firsts (n - row_steps plan) (map (λ index. index.changes) plan.indexes))

pub record IsMidway (format : ℕ) (lists : List (ℕ × List Member)) (n : ℕ) (plan : TablePlan) (trees : TreesAfter) : Type 0 where
  pub rows : List TableRow
  pub rows_are : IsAfter format plan.table plan.old (firsts n plan.batches) rows
  pub table_is : trees.table ≡ map row_member rows
  pub indexes_are : AllZip (IsIndexList format lists) (changes_done n plan) trees.indexes

-- the trees of all plans behind the first n steps
abbrev pub AreMidway : ℕ → List (ℕ × List Member) → ℕ → List TablePlan → List TreesAfter → Type 0
AreMidway format lists n [] trees = trees ≡ []
AreMidway format lists n (plan ∷ plans) trees =
    (own : TreesAfter) × (later : List TreesAfter) × IsMidway format lists n plan own × AreMidway format lists (n - plan_steps plan) plans later × (trees ≡ own ∷ later)

-- the trees of a plan by their roots
abbrev pub trees_by_root : TablePlan × TreesAfter → List (ℕ × List Member)
trees_by_root planned = (planned.0.root, planned.1.table) ∷ beside (map (λ index. index.root) planned.0.indexes) planned.1.indexes

-- a list that was written takes the place of the one with its root; every other one stays
abbrev pub replaced : List (ℕ × List Member) → ℕ × List Member → ℕ × List Member
replaced [] list = list
replaced (written ∷ others) list = if written.0 == list.0 then (list.0, written.1) else replaced others list

abbrev pub with_trees : List (ℕ × List Member) → List TablePlan → List TreesAfter → List (ℕ × List Member)
with_trees lists plans trees = map (replaced (flat_map trees_by_root (beside plans trees))) lists

-- The database midway, behind the first n steps of a transaction of these groups.
pub record IsMid (catalog : Catalog) (old : Database) (groups : List (List Batch)) (n : ℕ) (mid : Database) : Type 0 where
  pub plans : List TablePlan
  pub are_plans : ArePlans (format_in old) catalog old.lists groups plans
  pub trees : List TreesAfter
  pub are_trees : AreMidway (format_in old) old.lists n plans trees
  pub header : mid.header ≡ old.header
  pub lists : mid.lists ≡ with_trees old.lists plans trees

-- an entry with its record: the one that it had before, or the canonical one
abbrev pub recorded : ℕ → List Entered → List Value → Entered
recorded format [] entry = written_entry format entry
recorded format (one ∷ before) entry = if same_values one.entry entry then one else recorded format before entry

-- What an index has to hold behind a transaction: the projection of its table's new rows. An entry that stood before keeps its record, every other one has the canonical one.
pub record IsIndexNew (format : ℕ) (index : Index) (after : List TableRow) (old new : List Member) : Type 0 where
  pub before : List Entered
  pub are_before : AreEntered old before
  pub entries : List (List Value)
  pub projection : IsProjection index after entries
  pub members_are : new ≡ map (λ entry. (recorded format before entry).member) entries

abbrev pub IsNewIndexList : ℕ → List (ℕ × List Member) → List TableRow → IndexPlan → List Member → Type 0
IsNewIndexList format lists after plan members = IsIndexNew format plan.index after (list_at lists plan.root) members

pub record IsNewTrees (format : ℕ) (lists : List (ℕ × List Member)) (plan : TablePlan) (trees : TreesAfter) : Type 0 where
  pub table_is : trees.table ≡ map row_member plan.after
  pub indexes_are : AllZip (IsNewIndexList format lists plan.after) plan.indexes trees.indexes

-- The database behind the transaction: each targeted table has its new rows, each of its indexes their projection, all other lists are as before, and of the header only the counters change.
pub record IsNew (catalog : Catalog) (old : Database) (plans : List TablePlan) (new : Database) : Type 0 where
  pub trees : List TreesAfter
  pub are_trees : AllZip (IsNewTrees (format_in old) old.lists) plans trees
  pub header : new.header ≡ next_header old.header
  pub lists : new.lists ≡ with_trees old.lists plans trees

-- What a transaction of these groups comes to: the violation of its last step, or the new database.
pub data TransactionResult : Type 0 where
  Violates : Violation → TransactionResult
  Makes : Database → TransactionResult

abbrev pub IsResult : Catalog → Database → List TablePlan → TransactionResult → Type 0
IsResult catalog old plans (Violates violation) = last_fault (all_faults plans) ≡ Some violation
IsResult catalog old plans (Makes new) = (last_fault (all_faults plans) ≡ None) × IsNew catalog old plans new

-- The outcome of a transaction of all groups over a database with this catalog.
pub record IsOutcome (catalog : Catalog) (old : Database) (groups : List (List Batch)) (result : TransactionResult) : Type 0 where
  pub plans : List TablePlan
  pub are_plans : ArePlans (format_in old) catalog old.lists groups plans
  pub is_result : IsResult catalog old plans result
