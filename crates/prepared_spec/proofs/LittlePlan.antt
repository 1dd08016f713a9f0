-- The plan of the update that was worked out by hand.
use Rattle.std.proofs.Common.{◌≡◌, ◌≢◌, ℕ, pos, ◌<ℤ◌, List, [], ◌∷◌, Ok, refl, sym, ◌∙◌, inl, inr, arith}
use Rattle.std.specs.Prelude.{codes}
use Rattle.std.specs.declared.cmp.Ordering.{Ordering}
use Rattle.std.specs.declared.cmp.Ordering.TheVariants.{Less, Equal, Greater}
use Rattle.std.proofs.lemmas.Int.{ints}
use Rattle.std.proofs.lemmas.List.Sorted.{IsPermutation-refl}
use Rattle.rbu_value.specs.declared.value.Value.{Value}
use Rattle.rbu_value.specs.Order.{value_cmp}
use Rattle.format_spec.specs.Record.{canonical_record}
use Rattle.format_spec.specs.Varint as spelled
use Rattle.rbu_rows.specs.declared.prepared.Prepared.{Prepared}
use Rattle.database_spec.specs.Rows.{TableRow}
use Rattle.database_spec.specs.ListsLaws.{pairs-from}
use Rattle.database_spec.specs.LittleTarget.{target_table, target_index, target_rows, target_entry, target_database}
use Rattle.database_spec.specs.LittleTargetLaws.{target-rows}
use Rattle.prepared_spec.specs.RowKeys.{key_cmp, IsInKeyOrder}
use Rattle.prepared_spec.specs.Tables.{greatest_of, IsAfterBatch}
use Rattle.prepared_spec.specs.StepFaults.{entries_of, AreChanges}
use Rattle.prepared_spec.specs.Plans.{AreFaults, IsIndexPlan, IsTablePlan}
use Rattle.prepared_spec.specs.ChangesLaws.{present, absent, changes-are, Differ, differ-no_clash}
use Rattle.prepared_spec.specs.LittleUpdate.{little_batch, little_order, little_after, little_entry, little_changes, little_entries, little_index_plan, little_plan}

-- two answers that are not Equal
pub less : ◌≡◌ {A = Ordering} Less Equal → ⊥
less e = let no : ⊥ = cc in no

pub more : ◌≡◌ {A = Ordering} Greater Equal → ⊥
more e = let no : ⊥ = cc in no

ordered : IsInKeyOrder target_table little_batch.rows little_order
unfolding value_cmp
ordered = record {
  all = record { moves = (2, 3) ∷ (1, 2) ∷ (0, 1) ∷ []; below = (omega arith, omega arith, (omega arith, omega arith, (omega arith, omega arith, tt))); is = refl };
  sorted = pairs-from (λ (a b : Prepared). key_cmp target_table a.key b.key ≡ Less) little_order ((refl, (refl, (refl, tt))), ((refl, (refl, tt)), ((refl, tt), (tt, tt))));
}

pub after : IsAfterBatch 4 target_table (greatest_of target_rows) 0 target_rows little_order little_after
unfolding value_cmp canonical_record spelled.varint spelled.varint_front
after = record {
  all = IsPermutation-refl little_after;
  rise = pairs-from (λ (a b : TableRow). a.rowid <ℤ b.rowid) little_after ((omega (arith, ints), (omega (arith, ints), tt)), ((omega (arith, ints), tt), (tt, tt)));
}

faults : AreFaults 4 (codes "t1") target_table (greatest_of target_rows) 0 target_rows (little_order ∷ []) little_plan.faults
unfolding value_cmp
faults = (little_after, [], after, refl, refl)

abbrev old_entries : List (List Value)
old_entries = entries_of target_index target_rows

changes : AreChanges target_index target_rows little_after little_changes
unfolding value_cmp
changes =
    changes-are target_index target_rows little_after little_changes (
      (present (little_entry 10 1) old_entries refl, absent (little_entry 10 1) little_entries refl),
      (
        (present (little_entry 11 1) little_entries refl, absent (little_entry 11 1) old_entries refl),
        (
          (present (little_entry 20 2) old_entries refl, absent (little_entry 20 2) little_entries refl),
          (
            (present (little_entry 20 3) little_entries refl, absent (little_entry 20 3) old_entries refl),
            (
              (present (little_entry 30 3) old_entries refl, absent (little_entry 30 3) little_entries refl),
              ((present (little_entry 40 4) little_entries refl, absent (little_entry 40 4) old_entries refl), tt),
            ),
          ),
        ),
      ),
    )
    (inr (inl refl), (inr (inr (inr (inl refl))), (inr (inr (inr (inr (inr (inl refl))))), tt))) (inr (inr (inl refl)), (inr (inr (inr (inr (inl refl)))), (inr (inr (inr (inr (inr (inr (inl refl)))))), tt)))
    ((refl, (refl, (refl, (refl, (refl, tt))))), ((refl, (refl, (refl, (refl, tt)))), ((refl, (refl, (refl, tt))), ((refl, (refl, tt)), ((refl, tt), (tt, tt))))))

differ : Differ target_index little_entries
unfolding value_cmp
differ = ((less, (less, tt)), ((less, tt), (tt, tt)))

index_plan : IsIndexPlan target_rows little_after (3, Ok target_index) little_index_plan
index_plan = record {
  root = refl;
  meaning = refl;
  changes = changes;
  faults = (
    refl,
    (
      inr (differ-no_clash target_index target_rows little_after (little_entry 11 1) differ, refl),
      (
        refl,
        (inr (differ-no_clash target_index target_rows little_after (little_entry 20 3) differ, refl), (refl, (inr (differ-no_clash target_index target_rows little_after (little_entry 40 4) differ, refl), tt))),
      ),
    ),
  );
}

pub plan : IsTablePlan 4 target_database.lists (record { name = codes "t1"; entry = target_entry }) (little_batch ∷ []) little_plan
plan = record {
  name = refl;
  root = refl;
  meaning = refl;
  old_rows = target-rows;
  ordered = (ordered, tt);
  row_faults = faults;
  after_rows = (little_after, after, refl);
  index_plans = (index_plan, tt);
}
