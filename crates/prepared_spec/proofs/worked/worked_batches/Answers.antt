use Rattle.std.proofs.Common.{◌<ℤ◌, [], ◌∷◌, refl, arith}
use Rattle.std.proofs.lemmas.Int.{ints}
use Rattle.std.proofs.lemmas.List.Sorted.{IsPermutation-refl}
use Rattle.rbu_value.specs.Order.{value_cmp}
use Rattle.format_spec.specs.Record.{canonical_record}
use Rattle.format_spec.specs.Varint as spelled
use Rattle.database_spec.specs.Rows.{TableRow}
use Rattle.database_spec.specs.ListsLaws.{pairs-from}
use Rattle.prepared_spec.specs.LittleUpdate.{rows_between, rows_behind}
use Rattle.prepared_spec.proofs.worked.worked_batches.Goals as goal

pub returns-clause-rows : goal.returns-clause-rows
unfolding value_cmp canonical_record spelled.varint spelled.varint_front
returns-clause-rows c = (
  rows_between,
  record {
    all = IsPermutation-refl rows_between;
    rise = pairs-from (λ (a b : TableRow). a.rowid <ℤ b.rowid) rows_between
        ((omega (arith, ints), (omega (arith, ints), (omega (arith, ints), tt))), ((omega (arith, ints), (omega (arith, ints), tt)), ((omega (arith, ints), tt), (tt, tt))));
  },
  (
    rows_behind,
    record {
      all = IsPermutation-refl rows_behind;
      rise = pairs-from (λ (a b : TableRow). a.rowid <ℤ b.rowid) rows_behind ((omega (arith, ints), (omega (arith, ints), tt)), ((omega (arith, ints), tt), (tt, tt)));
    },
    refl,
  ),
)
