use Rattle.std.proofs.Common.{pos, List, [], ◌∷◌, map, refl}
use Rattle.std.specs.Prelude.{codes}
use Rattle.std.proofs.lemmas.List.Sorted.{IsPermutation-refl}
use Rattle.rbu_value.specs.Order.{value_cmp}
use Rattle.format_spec.specs.Record.{canonical_record}
use Rattle.format_spec.specs.Varint as spelled
use Rattle.database_spec.specs.Rows.{TableRow}
use Rattle.database_spec.specs.Keys.{IsBefore, IsProjection}
use Rattle.database_spec.specs.ListsLaws.{pairs-from}
use Rattle.database_spec.specs.LittleTarget.{target_index, target_entry, members_in, entry_cells}
use Rattle.database_spec.specs.LittleTargetLaws.{entry_values, first_values}
use Rattle.prepared_spec.specs.Outcomes.{IsIndexNew}
use Rattle.prepared_spec.specs.LittleUpdate.{little_after, little_entry, little_entries, little_plan}
use Rattle.prepared_spec.proofs.LittlePlan.{plan}
use Rattle.prepared_spec.proofs.worked.worked_update.Goals as goal

projection : IsProjection target_index little_after little_entries
unfolding value_cmp
projection = record { all = IsPermutation-refl little_entries; sorted = pairs-from (IsBefore target_index) little_entries ((refl, (refl, tt)), ((refl, tt), (tt, tt))) }

index_new : IsIndexNew 4 target_index little_after (members_in entry_cells) (map (λ entry. record { rowid = pos 0; payload = canonical_record 4 entry }) little_entries)
unfolding value_cmp
index_new = record {
  before = record { entry = little_entry 10 1; member = record { rowid = pos 0; payload = 3 ∷ 1 ∷ 9 ∷ 10 ∷ [] } }
      ∷ record { entry = little_entry 20 2; member = record { rowid = pos 0; payload = 3 ∷ 1 ∷ 1 ∷ 20 ∷ 2 ∷ [] } }
      ∷ record { entry = little_entry 30 3; member = record { rowid = pos 0; payload = 3 ∷ 1 ∷ 1 ∷ 30 ∷ 3 ∷ [] } } ∷ [];
  are_before = ((first_values, refl), ((entry_values 20 2 refl refl, refl), ((entry_values 30 3 refl refl, refl), tt)));
  entries = little_entries;
  projection = projection;
  members_are = refl;
}

pub returns : goal.returns
unfolding canonical_record spelled.varint spelled.varint_front
returns c = record {
  plans = little_plan ∷ [];
  are_plans = ((record { name = codes "t1"; entry = target_entry }, refl, plan), tt);
  is_result = (
    refl,
    record {
      trees = record {
        table = map (λ (row : TableRow). record { rowid = row.rowid; payload = row.payload }) little_after;
        indexes = map (λ entry. record { rowid = pos 0; payload = canonical_record 4 entry }) little_entries ∷ [];
      } ∷ [];
      are_trees = (record { table_is = refl; indexes_are = (index_new, tt) }, tt);
      header = refl;
      lists = refl;
    },
  );
}
