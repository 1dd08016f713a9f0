-- A member is one row, and a plain table has one list of rows: crates above cite these facts in their proofs.
use Rattle.std.proofs.Common.{◌≡◌, ℕ, List, [], Ok, refl, sym, ap, ◌∙◌}
use Rattle.std.proofs.Math.Path.{subst⁻¹}
use Rattle.std.specs.List.{AllZip}
use Rattle.format_spec.specs.Record.{IsRecord}
use Rattle.common_spec.specs.ReadingLaws.{IsOne}
use Rattle.record_codec.specs.RecordLaws.{record-same}
use Rattle.schema_spec.specs.declared.schema.Table.{Table}
use Rattle.tree_spec.specs.declared.TreeKind.TheVariants.{Table as TableTree}
use Rattle.tree_spec.specs.Trees.{Member}
use Rattle.tree_spec.specs.Standing.{Sizes, Paged}
use Rattle.database_spec.specs.declared.catalog.Entry.{Entry}
use Rattle.database_spec.specs.Rows.{TableRow, with_rowid, IsRow, IsPlain}
use Rattle.database_spec.specs.ListsLaws.{beside-one}
use Rattle.database_spec.specs.CatalogsLaws.{list-one}

-- bytes are one record
pub record-one : (bytes : List ℕ) → IsOne (IsRecord bytes)
record-one bytes a b p q = (record-same a b bytes bytes [] [] p q refl).0

pub row-one : (table : Table) (member : Member) → IsOne (IsRow table member)
row-one table member a b p q =
    let stored = record-one member.payload p.stored q.stored p.is_record q.is_record in
    let rowid : a.rowid ≡ b.rowid = p.rowid ∙ sym q.rowid in
    let values : a.values ≡ b.values = p.values ∙ ap (with_rowid table.rowid_column member.rowid) stored ∙ sym q.values in
    let payload : a.payload ≡ b.payload = p.payload ∙ sym q.payload in
    λ i. record { rowid = rowid i; values = values i; payload = payload i }

-- a plain table has one meaning and one list of rows
pub plain-one : (sizes : Sizes) (base : Paged) (entry : Entry) (table other : Table) (rows others : List TableRow)
    → IsPlain sizes base entry table rows → IsPlain sizes base entry other others → (table ≡ other) × (rows ≡ others)
plain-one sizes base entry table other rows others p q =
    let meaning : Ok table ≡ Ok other = sym p.meaning ∙ q.meaning in
    let same : table ≡ other = cc in
    let members = list-one sizes base TableTree entry.root p.members q.members p.is_list q.is_list in
    let there = subst⁻¹ (λ (m : List Member). AllZip (IsRow other) m others) members q.rows_are in
    let here = subst⁻¹ (λ (t : Table). AllZip (IsRow t) p.members others) same there in
    (same, beside-one (IsRow table) (row-one table) p.members rows others p.rows_are here)
