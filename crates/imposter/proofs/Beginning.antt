-- A pass that begins stands in its batch.
use Rattle.std.proofs.Common.{◌≡◌, ℕ, ℤ, true, List, ◌∷◌, Result, Ok, take, sym, ◌∙◌, subst}
use Rattle.std.proofs.Math.Path.{subst⁻¹}
use Rattle.std.specs.List.{AllByRecursion}
use Rattle.page_spec.specs.Freelists.{Trunk}
use Rattle.rbu_rows.specs.declared.prepared.Batch.{Batch}
use Rattle.rbu_rows.specs.declared.prepared.Prepared.{Prepared}
use Rattle.schema_spec.specs.declared.schema.SqlFault.{SqlFault}
use Rattle.schema_spec.specs.declared.schema.Table.{Table}
use Rattle.tree_spec.specs.Standing.{Sizes, Paged}
use Rattle.tree_spec.specs.Trees.{Member, Rooted}
use Rattle.tree_spec.specs.WorldsLaws.{all-back}
use Rattle.database_spec.specs.declared.catalog.NamedEntry.{NamedEntry}
use Rattle.database_spec.specs.Catalogs.{format_of}
use Rattle.database_spec.specs.Rows.{TableRow}
use Rattle.prepared_spec.specs.RowKeys.{IsInKeyOrder, has_rowid_key}
use Rattle.prepared_spec.specs.Tables.{greatest_of}
use Rattle.prepared_laws.specs.TablesMadeLaws.{HaveKeys}
use Rattle.pass_spec.specs.GroupsLaws.{all-permutes, mid-stands}
use Rattle.pass_spec.specs.TableSteps.{IsInBatch, IsMidGroup, StandsInBatch}
use Rattle.row_writes.specs.StoredLaws.{CanStore}
use Rattle.imposter.specs.declared.pass.TablePass.{TablePass}
use Rattle.imposter.specs.Begins.{Begins, HasRows}
use Rattle.imposter.specs.Passes.{IsPassIn}

module _ (sizes : Sizes) (base : Paged) (lists : List (ℕ × List Member)) (named : NamedEntry) (earlier : List Batch) (batch : Batch) (later : List Batch) (from taken : ℕ) (pass : TablePass) (front : List Rooted)
    (tree : Rooted) (back : List Rooted) (trunks : List Trunk) (rows : List TableRow) (mid : IsMidGroup (format_of base) lists named earlier batch later from taken rows)
    (begins : Begins batch named.entry (greatest_of mid.group.old) from taken pass) where
  abbrev Stands : Table → ℤ → List Prepared → Type 0
  Stands table g ordered = StandsInBatch (format_of base) table g mid.group.old earlier ordered from taken rows

  -- both read the text of one entry
  one-table : mid.group.table ≡ pass.target.table
  one-table =
      let read : ◌≡◌ {A = Result Table SqlFault} (Ok mid.group.table) (Ok pass.target.table) = sym mid.group.meaning ∙ begins.meaning in
      let same : mid.group.table ≡ pass.target.table = cc in
      same

  in-order : IsInKeyOrder pass.target.table batch.rows pass.rows
  in-order =
      begins.rows (subst (λ (table : Table). HaveKeys table batch.rows) one-table (all-back (λ (one : Batch). HaveKeys mid.group.table one.rows) earlier (batch ∷ later) mid.group.keys).0)

  stands : Stands pass.target.table pass.target.greatest pass.rows
  stands =
      subst⁻¹ (λ (g : ℤ). Stands pass.target.table g pass.rows) begins.greatest
      (subst (λ (table : Table). (ordered : List Prepared) → IsInKeyOrder table batch.rows ordered → Stands table (greatest_of mid.group.old) ordered) one-table
      (λ ordered is. mid-stands (format_of base) lists named earlier batch later from taken rows mid ordered is) pass.rows in-order)

  pub begins-in : has_rowid_key pass.target.table ≡ true → HasRows sizes pass.target front tree back trunks rows base → AllByRecursion (λ (prepared : Prepared). CanStore pass.target.table prepared.values) batch.rows
      → (is : Stands pass.target.table pass.target.greatest pass.rows) × IsPassIn sizes pass is.start is.before front tree back trunks rows base
  begins-in keyed has can = (
    stands,
    record {
      rowid_key = keyed;
      world = has.world;
      kind_is = has.kind_is;
      root_is = has.root_is;
      rows_are = has.rows_are;
      can_store = has.can_store;
      prepared_can = all-permutes (λ (prepared : Prepared). CanStore pass.target.table prepared.values) batch.rows pass.rows in-order.all can;
      due = stands.due;
      behind =
          subst⁻¹ (λ (n : ℕ). IsInBatch (format_of base) pass.target.table pass.target.greatest stands.start stands.before (take n pass.rows) pass.taken rows) begins.at
          (subst⁻¹ (λ (n : ℕ). IsInBatch (format_of base) pass.target.table pass.target.greatest stands.start stands.before (take from pass.rows) n rows) begins.taken_is stands.behind);
    },
  )
