-- What a change does with the tree of its index, over any store, and what it refuses (The RBU Extension, section 2.1).
use Rattle.std.specs.Prelude.{◌≡◌, ◌⊎◌, ℕ, ℤ, ◌+◌, ◌<◌, ◌≤◌, Bool, true, false, IsTrue, List, length, Some, Result, IfErr}
use Rattle.common_spec.specs.Reading.{OrFault}
use Rattle.rbu_value.specs.declared.value.Value.{Value}
use Rattle.format_spec.specs.Cell.{payload_limit}
use Rattle.format_spec.specs.Record.{canonical_record}
use Rattle.page_spec.specs.Freelists.{Trunk}
use Rattle.page_spec.specs.Pages.{Pages}
use Rattle.page_store.specs.declared.store.PageRead.{Ghosts}
use Rattle.tree_spec.specs.declared.TreeKind.TheVariants.{Index as IndexTree}
use Rattle.tree_spec.specs.Trees.{Member, Rooted, list_in, root_of}
use Rattle.tree_spec.specs.Standing.{Sizes, Paged, IsTree}
use Rattle.tree_spec.specs.Worlds.{IsWorld, greatest_count, with_tree}
use Rattle.tree_pages.specs.Writers.{paged, sizes_of}
use Rattle.database_spec.specs.Catalogs.{format_of}
use Rattle.database_spec.specs.Keys.{last_value}
use Rattle.prepared_spec.specs.declared.input_fault.RecordCause.TheVariants.{SizeOverLimit}
use Rattle.prepared_spec.specs.declared.violation.Change.{Change}
use Rattle.prepared_spec.specs.declared.violation.Change.TheVariants.{Remove, Add}
use Rattle.prepared_spec.specs.declared.violation.Violation.TheVariants.{NotUnique}
use Rattle.prepared_spec.specs.StepFaults.{changed_entry}
use Rattle.prepared_spec.specs.Tables.{integer_in}
use Rattle.pass_fault.specs.declared.fault.PassFault.{PassFault}
use Rattle.pass_fault.specs.Faults.{IsFullFor, IsRecordOf, IsTreeFault, IsWanting, room_in}
use Rattle.pass_fault.specs.Formats.{format_in}
use Rattle.key_order.specs.Orders.{IsEntry, IsRising}
use Rattle.tree_index.specs.declared.putting.Inserted.{Inserted}
use Rattle.tree_index.specs.Needs.{AreEntries, put_pages}
use Rattle.tree_index.specs.Puts.{PutsEntry}
use Rattle.index_removal.specs.Deletes.{DeletesEntry}
use Rattle.index_removal.specs.Needs.{delete_pages}
use Rattle.index_lookup.specs.Alikes.{HasAlike, with_rowid}
use Rattle.index_pass.specs.declared.change.EntryStep.{EntryStep}
use Rattle.index_pass.specs.declared.change.EntryStep.TheVariants.{Moved, Constraint}
use Rattle.index_pass.specs.declared.target.Target.{Target}

-- the record of an entry under the schema format that page 1 says
abbrev pub record_in : Paged → List Value → List ℕ
record_in base entry = canonical_record (format_of base) entry

-- the rowid of an entry
abbrev pub rowid_in : Target → List Value → ℤ
rowid_in target entry = integer_in (last_value target.order.columns entry)

-- whether the index is unique, and an entry stands in its list that agrees with another one
abbrev pub TellsClash : Target → List ℕ → List Member → Bool → Type 0
TellsClash target payload members true = IsTrue target.unique × HasAlike target.alike payload members
TellsClash target payload members false = (¬ IsTrue target.unique) ⊎ (¬ HasAlike target.alike payload members)

-- so of whatever index that rises stands at the root
abbrev pub FindsClash : Sizes → Target → List ℕ → Bool → Paged → Type 0
FindsClash sizes target payload found base =
    (depth : ℕ) (members : List Member) (numbers : List ℕ) → IsTree sizes base target.root IndexTree depth members numbers → IsRising (with_rowid target.alike) members → TellsClash target payload members found

-- the same of a call, which refuses nothing over such an index but that the store failed or memory is wanting
abbrev pub LooksForClash : {F : Type 0} → Sizes → Paged → Target → List ℕ → Result Bool (PassFault F) → Type 0
LooksForClash sizes base target payload result =
    (depth : ℕ) (members : List Member) (numbers : List ℕ) → IsTree sizes base target.root IndexTree depth members numbers → IsRising (with_rowid target.alike) members → OrFault (TellsClash target payload members) IsWanting result

-- An entry went out of the index at the root, or none stood there.
pub record Removes (sizes : Sizes) (target : Target) (payload : List ℕ) (old new : Paged) : Type 0 where
  pub deleted : Bool
  pub into : DeletesEntry sizes target.root target.order payload greatest_count deleted old new
  pub grows : old.count ≤ new.count
  pub rises : new.count ≤ old.count + delete_pages

-- An entry, which a cell can have, went into the index at the root, or an equal one stood there.
pub record Adds (sizes : Sizes) (target : Target) (payload : List ℕ) (old new : Paged) : Type 0 where
  pub inserted : Inserted
  pub into : PutsEntry sizes target.root target.order payload greatest_count inserted old new
  pub fits : length payload ≤ payload_limit
  pub grows : old.count ≤ new.count
  pub rises : new.count ≤ old.count + put_pages sizes.usable (length payload)

-- What a change came to, by the record of its entry.
abbrev pub StepsRecord : Sizes → Target → Change → List ℕ → EntryStep → Paged → Paged → Type 0
StepsRecord sizes target (Remove entry) payload Moved old new = Removes sizes target payload old new
StepsRecord sizes target (Remove entry) payload (Constraint violation) old new = ⊥
StepsRecord sizes target (Add entry) payload Moved old new = FindsClash sizes target payload false old × Adds sizes target payload old new
StepsRecord sizes target (Add entry) payload (Constraint violation) old new = FindsClash sizes target payload true old × (violation ≡ NotUnique target.name entry) × (new ≡ old)

abbrev pub StepsChange : Sizes → Target → Change → EntryStep → Paged → Paged → Type 0
StepsChange sizes target change step old new = StepsRecord sizes target change (record_in old (changed_entry change)) step old new

-- the pages that a change may take, by the record of its entry
abbrev pub entry_pages : ℕ → Change → List ℕ → ℕ
entry_pages usable (Remove entry) payload = delete_pages
entry_pages usable (Add entry) payload = put_pages usable (length payload)

-- refusal 96 of an entry that no cell can have
abbrev pub IsTooLong : {F : Type 0} → Target → List Value → List ℕ → PassFault F → Type 0
IsTooLong target entry payload fault = (payload_limit < length payload) × IsRecordOf target.table (rowid_in target entry) SizeOverLimit fault

-- so of one that is added, where none stands that agrees with it
abbrev pub IsLongEntry : {F : Type 0} → Sizes → Target → Paged → Change → List ℕ → PassFault F → Type 0
IsLongEntry sizes target base (Remove entry) payload fault = ⊥
IsLongEntry sizes target base (Add entry) payload fault = FindsClash sizes target payload false base × IsTooLong target entry payload fault

-- What a change refuses over an index of entries, by the record of its entry: that no page is left, [51], only where fewer pages could be taken than it may take; or that the entry is too long.
abbrev pub IsEntryFault : {F : Type 0} → Sizes → Target → Paged → List Trunk → Change → List ℕ → ℕ → PassFault F → Type 0
IsEntryFault sizes target base trunks change payload count fault =
    IsTreeFault (IsFullFor (entry_pages sizes.usable change payload) (room_in base trunks) count) fault ⊎ IsLongEntry sizes target base change payload fault

module _ {P F : Type 0} (g : Ghosts P F) where
  -- what is refused of the record of an entry, where that is an entry of the index
  abbrev pub RefusesEntry : {T : Type 0} → Target → List Value → P → Result T (PassFault F) → Type 0
  RefusesEntry target entry before result = (m : Pages) → g.pages before ≡ Some m → IsEntry target.order (canonical_record (format_in (m 1)) entry) → IfErr result IsWanting

  -- what a put or a delete refuses in every world with an index of entries at the root
  abbrev pub RefusesWrite : {T : Type 0} → Target → ℕ → P → P → Result T (PassFault F) → Type 0
  RefusesWrite target most before after result =
      (m : Pages) (front : List Rooted) (tree : Rooted) (back : List Rooted) (trunks : List Trunk) → g.pages before ≡ Some m → IsWorld (sizes_of g before) (paged g before m) (with_tree front tree back trunks)
      → tree.kind ≡ IndexTree → root_of tree ≡ target.root → AreEntries target.order (list_in tree) → IfErr result (IsTreeFault (IsFullFor most (room_in (paged g before m) trunks) (g.count after)))

  -- so of a put of an entry that may be too long
  abbrev pub RefusesPut : {T : Type 0} → Target → List Value → List ℕ → P → P → Result T (PassFault F) → Type 0
  RefusesPut target entry payload before after result =
      (m : Pages) (front : List Rooted) (tree : Rooted) (back : List Rooted) (trunks : List Trunk) → g.pages before ≡ Some m → IsWorld (sizes_of g before) (paged g before m) (with_tree front tree back trunks)
      → tree.kind ≡ IndexTree → root_of tree ≡ target.root → AreEntries target.order (list_in tree)
      → IfErr result (λ fault. IsTreeFault (IsFullFor (put_pages (g.usable before) (length payload)) (room_in (paged g before m) trunks) (g.count after)) fault ⊎ IsTooLong target entry payload fault)

  -- what is refused in every world with the index, whose list rises
  abbrev pub RefusesRecord : {T : Type 0} → Target → Change → List ℕ → P → P → Result T (PassFault F) → Type 0
  RefusesRecord target change payload before after result =
      (m : Pages) (front : List Rooted) (tree : Rooted) (back : List Rooted) (trunks : List Trunk) → g.pages before ≡ Some m → IsWorld (sizes_of g before) (paged g before m) (with_tree front tree back trunks)
      → tree.kind ≡ IndexTree → root_of tree ≡ target.root → IsRising target.order (list_in tree)
      → IfErr result (IsEntryFault (sizes_of g before) target (paged g before m) trunks change payload (g.count after))

  -- so of a change, whose record is an entry
  abbrev pub RefusesChange : {T : Type 0} → Target → Change → P → P → Result T (PassFault F) → Type 0
  RefusesChange target change before after result =
      (m : Pages) (front : List Rooted) (tree : Rooted) (back : List Rooted) (trunks : List Trunk) → g.pages before ≡ Some m → IsWorld (sizes_of g before) (paged g before m) (with_tree front tree back trunks)
      → tree.kind ≡ IndexTree → root_of tree ≡ target.root → IsRising target.order (list_in tree) → IsEntry target.order (record_in (paged g before m) (changed_entry change))
      → IfErr result (IsEntryFault (sizes_of g before) target (paged g before m) trunks change (record_in (paged g before m) (changed_entry change)) (g.count after))
