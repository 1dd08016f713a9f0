use Rattle.std.proofs.Common.{◌<ℤ◌, [], ◌∷◌, ◌++◌, refl, inr, arith}
use Rattle.std.proofs.lemmas.Int.{ints}
use Rattle.std.proofs.lemmas.List.Sorted.{IsPermutation-refl}
use Rattle.rbu_value.specs.Order.{value_cmp}
use Rattle.format_spec.specs.Record.{canonical_record}
use Rattle.format_spec.specs.Varint as spelled
use Rattle.database_spec.specs.Rows.{TableRow}
use Rattle.database_spec.specs.ListsLaws.{pairs-from}
use Rattle.database_spec.specs.LittleTarget.{target_index, target_rows}
use Rattle.prepared_spec.specs.StepFaults.{entries_of}
use Rattle.prepared_spec.specs.ChangesLaws.{Differ, differ-no_clash}
use Rattle.prepared_spec.specs.LittleUpdate.{little_entry}
use Rattle.prepared_spec.specs.LittleGroups.{fourth_row, later_rows}
use Rattle.prepared_spec.proofs.LittlePlan.{less, more}
use Rattle.prepared_spec.proofs.worked.worked_freeing.Goals as goal

pub returns-clause-rows : goal.returns-clause-rows
unfolding value_cmp canonical_record spelled.varint spelled.varint_front
returns-clause-rows c =
    let between = target_rows ++ fourth_row ∷ [] in
    let after = later_rows ++ fourth_row ∷ [] in (
      between,
      record {
        all = IsPermutation-refl between;
        rise = pairs-from (λ (a b : TableRow). a.rowid <ℤ b.rowid) between
            ((omega (arith, ints), (omega (arith, ints), (omega (arith, ints), tt))), ((omega (arith, ints), (omega (arith, ints), tt)), ((omega (arith, ints), tt), (tt, tt))));
      },
      (
        after,
        record {
          all = IsPermutation-refl after;
          rise = pairs-from (λ (a b : TableRow). a.rowid <ℤ b.rowid) after ((omega (arith, ints), (omega (arith, ints), tt)), ((omega (arith, ints), tt), (tt, tt)));
        },
        refl,
      ),
    )

differ : Differ target_index (entries_of target_index (later_rows ++ fourth_row ∷ []))
unfolding value_cmp
differ = ((less, (more, tt)), ((more, tt), (tt, tt)))

pub returns-clause-fault : goal.returns-clause-fault
returns-clause-fault c = inr (differ-no_clash target_index target_rows (later_rows ++ fourth_row ∷ []) (little_entry 10 4) differ, refl)
