use Rattle.std.proofs.Common.{◌<ℤ◌, [], ◌∷◌, refl, inl, inr, arith}
use Rattle.std.proofs.lemmas.Int.{ints}
use Rattle.std.proofs.lemmas.List.Sorted.{IsPermutation-refl}
use Rattle.rbu_value.specs.Order.{value_cmp}
use Rattle.format_spec.specs.Record.{canonical_record}
use Rattle.format_spec.specs.Varint as spelled
use Rattle.database_spec.specs.Rows.{TableRow}
use Rattle.database_spec.specs.ListsLaws.{pairs-from}
use Rattle.database_spec.specs.LittleTarget.{target_index, target_rows}
use Rattle.prepared_spec.specs.StepFaults.{entries_of}
use Rattle.prepared_spec.specs.ChangesLaws.{present, absent, changes-are, Differ, differ-no_clash}
use Rattle.prepared_spec.specs.LittleUpdate.{little_entry}
use Rattle.prepared_spec.specs.LittleGroups.{exchanged_rows, exchange_changes}
use Rattle.prepared_spec.proofs.LittlePlan.{less, more}
use Rattle.prepared_spec.proofs.worked.worked_exchange.Goals as goal

pub returns-clause-rows : goal.returns-clause-rows
unfolding value_cmp canonical_record spelled.varint spelled.varint_front
returns-clause-rows c = (
  exchanged_rows,
  record {
    all = IsPermutation-refl exchanged_rows;
    rise = pairs-from (λ (a b : TableRow). a.rowid <ℤ b.rowid) exchanged_rows ((omega (arith, ints), (omega (arith, ints), tt)), ((omega (arith, ints), tt), (tt, tt)));
  },
  refl,
)

pub returns-clause-changes : goal.returns-clause-changes
unfolding value_cmp
returns-clause-changes c =
    let old = entries_of target_index target_rows in
    let new = entries_of target_index exchanged_rows in
    changes-are target_index target_rows exchanged_rows exchange_changes (
      (present (little_entry 10 1) old refl, absent (little_entry 10 1) new refl),
      (
        (present (little_entry 10 2) new refl, absent (little_entry 10 2) old refl),
        (
          (present (little_entry 20 2) old refl, absent (little_entry 20 2) new refl),
          ((present (little_entry 20 1) new refl, absent (little_entry 20 1) old refl), tt),
        ),
      ),
    )
    (inr (inl refl), (inr (inr (inr (inl refl))), (inl (present (little_entry 30 3) new refl), tt))) (inr (inr (inr (inr (inl refl)))), (inr (inr (inl refl)), (inl (present (little_entry 30 3) old refl), tt)))
    ((refl, (refl, (refl, tt))), ((refl, (refl, tt)), ((refl, tt), (tt, tt))))

differ : Differ target_index (entries_of target_index exchanged_rows)
unfolding value_cmp
differ = ((more, (less, tt)), ((less, tt), (tt, tt)))

pub returns-clause-first : goal.returns-clause-first
returns-clause-first c = inr (differ-no_clash target_index target_rows exchanged_rows (little_entry 10 2) differ, refl)

pub returns-clause-second : goal.returns-clause-second
returns-clause-second c = inr (differ-no_clash target_index target_rows exchanged_rows (little_entry 20 1) differ, refl)
