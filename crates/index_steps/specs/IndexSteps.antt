-- What one step of a pass over an index makes of its list, and where a pass stands in the changes of an index.
use Rattle.std.specs.Prelude.{◌≡◌, ℕ, pos, false, List, ◌∷◌, ◌++◌, None}
use Rattle.std.specs.List.{AllByRecursion}
use Rattle.format_spec.specs.Record.{canonical_record}
use Rattle.record_codec.specs.Records.{HaveRecord}
use Rattle.schema_spec.specs.declared.schema.Index.{Index}
use Rattle.tree_spec.specs.Trees.{Member}
use Rattle.database_spec.specs.Rows.{TableRow}
use Rattle.database_spec.specs.Keys.{IsIndexOf, order_of}
use Rattle.prepared_spec.specs.declared.violation.Change.{Change}
use Rattle.prepared_spec.specs.declared.violation.Change.TheVariants.{Remove, Add}
use Rattle.prepared_spec.specs.StepFaults.{AreChanges, IsChangeFault, changed_entry}
use Rattle.prepared_laws.specs.TablesMadeLaws.{Apart}
use Rattle.key_order.specs.declared.order.KeyOrder.{KeyOrder}
use Rattle.key_order.specs.Orders.{IsEqual}

-- an order that looks at the columns of an index alone
pub record IsColumnsOrderOf (order : KeyOrder) (index : Index) : Type 0 where
  pub columns : order.columns ≡ order_of index
  pub last : order.rowid_last ≡ false

-- a list has lost a member that holds an equal entry
pub record Loses (order : KeyOrder) (payload : List ℕ) (old new : List Member) : Type 0 where
  pub gone : Member
  pub front : List Member
  pub back : List Member
  pub equal : IsEqual order payload gone
  pub old_is : old ≡ front ++ gone ∷ back
  pub new_is : new ≡ front ++ back

-- an entry as a member of its index
abbrev pub entry_member : List ℕ → Member
entry_member payload = record { rowid = pos 0; payload = payload }

-- a list has an entry too
pub record Gains (payload : List ℕ) (old new : List Member) : Type 0 where
  pub less : List Member
  pub greater : List Member
  pub old_is : old ≡ less ++ greater
  pub new_is : new ≡ less ++ entry_member payload ∷ greater

-- the canonical record of the entry that a change is of
abbrev pub change_record : ℕ → Change → List ℕ
change_record format change = canonical_record format (changed_entry change)

-- what a change makes of the list of its index
abbrev pub IsStepped : ℕ → KeyOrder → Change → List Member → List Member → Type 0
IsStepped format order (Remove entry) old new = Loses order (canonical_record format entry) old new
IsStepped format order (Add entry) old new = Gains (canonical_record format entry) old new

-- The changes of an index whose list held the projection of the old rows of its table. The rowids of the new rows differ, and what is changed can be recorded.
pub record AreChangesOf (format : ℕ) (index : Index) (old_rows new_rows : List TableRow) (old : List Member) (changes : List Change) : Type 0 where
  pub changes_are : AreChanges index old_rows new_rows changes
  pub held : IsIndexOf index old_rows old
  pub apart : Apart new_rows
  pub stored : AllByRecursion (λ change. HaveRecord format (changed_entry change)) changes

-- no change has a fault
abbrev pub AreFaultless : Index → List TableRow → List TableRow → List Change → Type 0
AreFaultless index old_rows new_rows changes = AllByRecursion (λ change. IsChangeFault index old_rows new_rows change None) changes
