-- What writing what a step writes leaves of the pages, and what it refuses.
use Rattle.std.specs.Prelude.{◌≡◌, ◌⊎◌, ℕ, ℤ, ◌+◌, ◌<◌, ◌≤◌, List, length, Option, Some, Result, IfErr}
use Rattle.format_spec.specs.Cell.{payload_limit}
use Rattle.page_spec.specs.Freelists.{Trunk}
use Rattle.page_spec.specs.Pages.{Pages}
use Rattle.page_store.specs.declared.store.PageRead.{Ghosts}
use Rattle.tree_spec.specs.declared.TreeKind.TheVariants.{Table}
use Rattle.tree_spec.specs.Trees.{Rooted, root_of}
use Rattle.tree_spec.specs.Standing.{Sizes, Paged}
use Rattle.tree_spec.specs.Worlds.{IsWorld, greatest_count, with_tree}
use Rattle.tree_pages.specs.Writers.{paged, sizes_of}
use Rattle.tree_table.specs.Deletes.{DeletesRow, delete_pages}
use Rattle.tree_table.specs.Needs.{put_pages}
use Rattle.tree_table.specs.Puts.{PutsRow}
use Rattle.prepared_spec.specs.declared.input_fault.RecordCause.TheVariants.{SizeOverLimit}
use Rattle.pass_fault.specs.declared.fault.PassFault.{PassFault}
use Rattle.pass_fault.specs.Faults.{IsFullFor, IsRecordOf, IsTreeFault, room_in}
use Rattle.row_values.specs.Values.{member_with}
use Rattle.row_writes.specs.declared.write.RowWrite.{RowWrite}
use Rattle.row_writes.specs.declared.write.RowWrite.TheVariants.{Nothing, Put, Delete}
use Rattle.imposter.specs.declared.target.Target.{Target}

-- refusal 96 comes of a record that is too long alone
abbrev pub IsTreeOrLong : {F : Type 0} → Target → ℤ → PassFault F → Type 0
IsTreeOrLong target rowid fault = IsTreeFault (λ _. Unit {0}) fault ⊎ IsRecordOf target.name rowid SizeOverLimit fault

-- a cell can have the record that is written
abbrev pub FitsCell : RowWrite → Type 0
FitsCell Nothing = Unit {0}
FitsCell (Put bytes) = length bytes ≤ payload_limit
FitsCell Delete = Unit {0}

-- no cell can have it
abbrev pub IsLong : RowWrite → Type 0
IsLong Nothing = ⊥
IsLong (Put bytes) = payload_limit < length bytes
IsLong Delete = ⊥

-- the pages that writing may take
abbrev pub write_pages : ℕ → RowWrite → ℕ
write_pages usable Nothing = 0
write_pages usable (Put bytes) = put_pages usable (length bytes)
write_pages usable Delete = delete_pages

-- what it makes of the table at a root
abbrev pub WritesInto : Sizes → ℕ → ℤ → RowWrite → Paged → Paged → Type 0
WritesInto sizes root rowid Nothing old new = new ≡ old
WritesInto sizes root rowid (Put bytes) old new = PutsRow sizes root (member_with rowid bytes) greatest_count old new
WritesInto sizes root rowid Delete old new = (payload : Option (List ℕ)) × DeletesRow sizes root rowid greatest_count payload old new

-- What writing does: what it makes of the table, and of the count of pages. A cell can have what is written.
pub record DoesWrite (sizes : Sizes) (root : ℕ) (rowid : ℤ) (write : RowWrite) (old new : Paged) : Type 0 where
  pub into : WritesInto sizes root rowid write old new
  pub fits : FitsCell write
  pub grows : old.count ≤ new.count
  pub rises : new.count ≤ old.count + write_pages sizes.usable write

-- what writing may refuse
abbrev pub IsWriteFault : {F : Type 0} → ℕ → Target → ℤ → RowWrite → ℕ → ℕ → PassFault F → Type 0
IsWriteFault usable target rowid write room count fault =
    IsTreeFault (IsFullFor (write_pages usable write) room count) fault ⊎ (IsRecordOf target.name rowid SizeOverLimit fault × IsLong write)

module _ {P F : Type 0} (g : Ghosts P F) where
  -- so in every world with a table at the target's root
  abbrev pub RefusesWrite : {T : Type 0} → Target → ℤ → RowWrite → P → P → Result T (PassFault F) → Type 0
  RefusesWrite target rowid write before after result =
      (m : Pages) (front : List Rooted) (table : Rooted) (back : List Rooted) (trunks : List Trunk) → g.pages before ≡ Some m → IsWorld (sizes_of g before) (paged g before m) (with_tree front table back trunks)
      → table.kind ≡ Table → root_of table ≡ target.root
      → IfErr result (IsWriteFault (g.usable before) target rowid write (room_in (paged g before m) trunks) (g.count after))
