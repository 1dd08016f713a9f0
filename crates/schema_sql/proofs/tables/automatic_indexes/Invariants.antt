use Rattle.std.proofs.Common.{◌≡◌, ◌++◌, length, map, filter, not}
use Rattle.schema_spec.specs.Names.{is_rowid}
use Rattle.schema_spec.specs.Texts.{listed}
use Rattle.schema_sql.proofs.tables.automatic_indexes.Given as goal

abbrev pub invariant-loop-left : goal.invariant-loop-left
invariant-loop-left l = map (λ key. map (listed l.text (map (λ column. column.name) l.columns) (map (λ column. column.collation) l.columns)) key.columns) (filter (λ key. not (is_rowid l.text l.rowid key.columns)) l.fn.keys) ≡ l.unique.items ++ map (λ key. map (listed l.text (map (λ column. column.name) l.columns) (map (λ column. column.collation) l.columns)) key.columns) (filter (λ key. not (is_rowid l.text l.rowid key.columns)) l.left)

abbrev pub decreases-loop-left : goal.decreases-loop-left
decreases-loop-left l = length l.left
