use Rattle.std.proofs.Common.{◌≡◌, List, [], ◌++◌, length, map}
use Rattle.std.specs.List.{AllZip}
use Rattle.schema_spec.specs.declared.schema.Column.{Column}
use Rattle.schema_spec.specs.Names.{named_twice}
use Rattle.schema_spec.specs.Texts.{IsColumn}
use Rattle.schema_sql.proofs.columns.columns_of.Given as goal

abbrev pub invariant-loop-left : goal.invariant-loop-left
invariant-loop-left l = record {
  completes : (rest : List Column) → AllZip (IsColumn l.text) l.left rest → AllZip (IsColumn l.text) l.fn.definitions (l.columns.items ++ rest);
  wrong : l.fn.wrong.items ++ named_twice l.text [] l.fn.definitions ≡ l.wrong.items ++ named_twice l.text (map (λ column. column.name) l.columns.items) l.left;
}

abbrev pub decreases-loop-left : goal.decreases-loop-left
decreases-loop-left l = length l.left
