-- What the members of the schema's tree are looked up by.
use Rattle.std.specs.Prelude.{ℕ, ◌&&◌, Bool, List, nat_eq}
use Rattle.schema_spec.specs.Words.{same_name}
use Rattle.database_spec.specs.declared.catalog.SchemaRow.{SchemaRow}
use Rattle.database_spec.specs.Catalogs.{is_table}
use Rattle.database_spec.specs.RightRows.{has_name}
use Rattle.schema_read.specs.declared.found.Found.{Found}
use Rattle.schema_read.specs.declared.members.Lookups.{Lookups}
use Rattle.schema_read.specs.Firsts.{HasFirsts, Notes, WillHaveFirsts}
use Rattle.schema_read.specs.Found.{has_root, is_named_automatic, row_any}

-- two pairs of names are one
abbrev pub same_names : List ℕ × List ℕ → List ℕ × List ℕ → Bool
same_names a b = same_name a.0 b.0 && same_name a.1 b.1

-- a table or a view of this name
abbrev pub is_table_named : List ℕ → SchemaRow → Bool
is_table_named name row = is_table row && same_name row.name name

-- an index without a text of the first name's table, with the second name
abbrev pub is_automatic_named : List ℕ × List ℕ → SchemaRow → Bool
is_automatic_named names row = is_named_automatic names.0 names.1 row

-- a test of rows by a key, of members
abbrev pub on_members : {K : Type 0} → (K → SchemaRow → Bool) → K → Found → Bool
on_members test key found = row_any (test key) found

-- each name, root and automatic index has the place of the first member that has it
pub record HasLookups (lookups : Lookups) (found : List Found) : Type 0 where
  pub tables : HasFirsts same_name (on_members is_table_named) lookups.tables found
  pub named : HasFirsts same_name (on_members has_name) lookups.named found
  pub roots : HasFirsts nat_eq (on_members has_root) lookups.roots found
  pub automatic : HasFirsts same_names (on_members is_automatic_named) lookups.automatic found

-- so it will be, once the members that are left are noted
pub record WillHaveLookups (lookups : Lookups) (at : ℕ) (left found : List Found) : Type 0 where
  pub tables : WillHaveFirsts same_name (on_members is_table_named) lookups.tables at left found
  pub named : WillHaveFirsts same_name (on_members has_name) lookups.named at left found
  pub roots : WillHaveFirsts nat_eq (on_members has_root) lookups.roots at left found
  pub automatic : WillHaveFirsts same_names (on_members is_automatic_named) lookups.automatic at left found

-- a row was noted with its place
pub record NotesRow (old new : Lookups) (at : ℕ) (row : SchemaRow) : Type 0 where
  pub tables : Notes same_name is_table_named old.tables new.tables at row
  pub named : Notes same_name has_name old.named new.named at row
  pub roots : Notes nat_eq has_root old.roots new.roots at row
  pub automatic : Notes same_names is_automatic_named old.automatic new.automatic at row

-- a member was
pub record NotesMember (old new : Lookups) (at : ℕ) (one : Found) : Type 0 where
  pub tables : Notes same_name (on_members is_table_named) old.tables new.tables at one
  pub named : Notes same_name (on_members has_name) old.named new.named at one
  pub roots : Notes nat_eq (on_members has_root) old.roots new.roots at one
  pub automatic : Notes same_names (on_members is_automatic_named) old.automatic new.automatic at one
