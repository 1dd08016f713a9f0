-- What a walk over the tree of an index answers, with what a comparison with its table tells.
use Rattle.std.specs.Prelude.{◌≡◌, ℕ, ℤ, Bool, List, ◌++◌, Option, None, Result, Ok, Err}
use Rattle.rbu_value.specs.declared.value.Value.{Value}
use Rattle.schema_spec.specs.declared.schema.Table.{Table}
use Rattle.schema_spec.specs.declared.schema.Index.{Index}
use Rattle.tree_spec.specs.declared.TreeKind.{TreeKind}
use Rattle.tree_spec.specs.declared.TreeKind.TheVariants as tree
use Rattle.tree_spec.specs.Standing.{Sizes, Paged}
use Rattle.tree_spec.specs.Trees.{Member}
use Rattle.database_spec.specs.declared.catalog.Entry.{Entry}
use Rattle.database_spec.specs.Walks.{Finding, IsWalk, members_found}
use Rattle.database_spec.specs.Rows.{TableRow}
use Rattle.database_spec.specs.Keys.{IsProjection}
use Rattle.database_spec.specs.FileFindings.{Content, Rows, Entries, Anything, Subject, Found, IsIndexSubject}
use Rattle.database_spec.specs.FileFaults.{FirstWrong}
use Rattle.prepared_laws.specs.TablesMadeLaws.{Apart}
use Rattle.database_laws.specs.RightFindings.{AreRight}
use Rattle.database_laws.specs.RightFilesLaws.{in_tree}
use Rattle.db_check.specs.declared.fault.CheckFault.{CheckFault}
use Rattle.db_check.specs.declared.walk.Members.{Members}
use Rattle.db_check.specs.declared.walk.Members.TheVariants as holds
use Rattle.db_check.specs.Answers.{IsRefusal}
use Rattle.db_check.specs.Compares.{Tells}
use Rattle.db_check.specs.Passes.{IsMarked, Passes}
use Rattle.db_check.specs.TreeSteps.{IsFresh}

-- a tree that is gone through without its entries
abbrev pub HasMembers : Members → Content → Type 0
HasMembers holds.Rows content = content ≡ Rows
HasMembers holds.Entries content = ⊥
HasMembers holds.Any content = content ≡ Anything

-- what is told of an index: where it is plain, the first entry that disagrees. Of two rows of the table with one rowid nothing is said: in a tree that is right there are none.
abbrev pub TellsIndex : Content → List Member → Option ℤ → Type 0
TellsIndex Rows members told = ⊥
TellsIndex (Entries index rows) members told = Apart rows → Tells index rows members told
TellsIndex Anything members told = told ≡ None

-- all of a tree is right, and this is told of it, or its first fault is answered
abbrev pub EndsIndex : {F : Type 0} → (List Member → Option ℤ → Type 0) → Subject → List Found → List Finding → List Bool → Result (Option ℤ) (CheckFault F) → Type 0
EndsIndex Is subject before findings flags (Ok told) = AreRight before (in_tree subject findings) × IsMarked flags (before ++ in_tree subject findings) × Is (members_found findings) told
EndsIndex Is subject before findings flags (Err fault) = IsRefusal (FirstWrong before (in_tree subject findings)) fault

module _ (sizes : Sizes) (base : Paged) where
  -- The tree at a root, of which nothing was found before.
  abbrev pub PassesMembers : {F : Type 0} → TreeKind → Members → ℕ → List Bool → List Bool → Result Unit (CheckFault F) → Type 0
  PassesMembers kind members root old flags result =
      (subject : Subject) (before : List Found) → HasMembers members subject.content → subject.root ≡ root → IsFresh root before → IsMarked old before
      → (findings : List Finding) → IsWalk sizes base kind root findings → Passes before (in_tree subject findings) flags result

  -- the tree of a plain index beside the entries of its table's rows
  abbrev pub ComparesTree : {F : Type 0} → Index → List (List Value) → ℕ → List Bool → List Bool → Result (Option ℤ) (CheckFault F) → Type 0
  ComparesTree index expected root old flags result =
      (subject : Subject) (rows : List TableRow) (before : List Found) → subject.content ≡ Entries index rows → subject.root ≡ root → IsFresh root before → IsMarked old before
      → (findings : List Finding) → IsWalk sizes base tree.Index root findings → EndsIndex (λ members told. IsProjection index rows expected → Tells index rows members told) subject before findings flags result

  -- the tree of an index that is not plain
  abbrev pub PassesOther : {F : Type 0} → ℕ → List Bool → List Bool → Result (Option ℤ) (CheckFault F) → Type 0
  PassesOther root old flags result =
      (subject : Subject) (before : List Found) → subject.content ≡ Anything → subject.root ≡ root → IsFresh root before → IsMarked old before
      → (findings : List Finding) → IsWalk sizes base tree.Index root findings → EndsIndex (λ members told. told ≡ None) subject before findings flags result

  -- the tree of an index of a table
  abbrev pub PassesIndex : {F : Type 0} → ℕ → Table → Index → ℕ → List Bool → List Bool → Result (Option ℤ) (CheckFault F) → Type 0
  PassesIndex table_root table index root old flags result =
      (entry : Entry) → entry.root ≡ table_root → entry.meaning ≡ Ok table → (subject : Subject) (before : List Found) → IsIndexSubject sizes base entry (root, Ok index) subject → IsFresh root before → IsMarked old before
      → (findings : List Finding) → IsWalk sizes base tree.Index root findings → EndsIndex (TellsIndex subject.content) subject before findings flags result
