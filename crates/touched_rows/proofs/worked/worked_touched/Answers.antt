use Rattle.std.proofs.Common.{◌≡◌, ℤ, ◌<ℤ◌, pos, List, [], ◌∷◌, refl, ap, ◌∙◌, subst, inl, inr, arith}
use Rattle.std.proofs.lemmas.Int.{ints}
use Rattle.std.specs.Prelude.{Contains, codes}
use Rattle.rbu_value.specs.Order.{value_cmp}
use Rattle.database_spec.specs.Rows.{TableRow}
use Rattle.database_spec.specs.ListsLaws.{pairs-from}
use Rattle.database_spec.specs.LittleTarget.{row_record, target_row, target_table, target_rows}
use Rattle.prepared_laws.specs.TablesMadeLaws.{Apart}
use Rattle.prepared_spec.specs.Tables.{written_row, new_rows as made_rows, greatest_of}
use Rattle.prepared_spec.specs.MembersLaws.{Has, has-from, has-to}
use Rattle.prepared_spec.specs.LittleUpdate.{inserted, updated, deleted, replaced_row, little_order, little_after}
use Rattle.touched_rows.specs.TouchedRows.{IsTouched}
use Rattle.touched_rows.specs.TouchedRowsLaws.{side-row, side-none}
use Rattle.touched_rows.proofs.worked.worked_touched.Goals as goal

abbrev rowids : List ℤ
rowids = pos 1 ∷ pos 2 ∷ pos 3 ∷ pos 4 ∷ []

abbrev Touched : ℤ → Type 0
Touched z = IsTouched 4 target_table target_rows (little_order ∷ []) z

abbrev old_one : TableRow
old_one = target_row 1 (row_record 19 (codes "one") 10) (codes "one") 10

abbrev old_two : TableRow
old_two = target_row 2 (row_record 19 (codes "two") 20) (codes "two") 20

abbrev old_three : TableRow
old_three = target_row 3 (row_record 23 (codes "three") 30) (codes "three") 30

abbrev new_one : TableRow
new_one = target_row 1 (row_record 19 (codes "one") 11) (codes "one") 11

abbrev new_three : TableRow
new_three = target_row 3 (row_record 21 (codes "drei") 20) (codes "drei") 20

abbrev new_four : TableRow
new_four = target_row 4 (row_record 21 (codes "four") 40) (codes "four") 40

old_apart : Apart target_rows
old_apart = ((λ e. omega (arith, ints, e), (λ e. omega (arith, ints, e), tt)), ((λ e. omega (arith, ints, e), tt), (tt, tt)))

after_apart : Apart little_after
after_apart = ((λ e. omega (arith, ints, e), (λ e. omega (arith, ints, e), tt)), ((λ e. omega (arith, ints, e), tt), (tt, tt)))

-- what the rows of the batch do with the rows of the table
each-touched : (z : ℤ) → Has z rowids → Touched z
unfolding value_cmp
each-touched z (inl e) = subst Touched e (inl (inl (old_one, has-to target_rows old_one (inl refl), refl, (updated, has-to little_order updated (inl refl), refl))))
each-touched z (inr (inl e)) = subst Touched e (inl (inl (old_two, has-to target_rows old_two (inr (inl refl)), refl, (deleted, has-to little_order deleted (inr (inl refl)), refl))))
each-touched z (inr (inr (inl e))) = subst Touched e (inl (inl (old_three, has-to target_rows old_three (inr (inr (inl refl))), refl, (replaced_row, has-to little_order replaced_row (inr (inr (inl refl))), refl))))
each-touched z (inr (inr (inr (inl e)))) =
    subst Touched e (inl (inr (
      written_row 4 target_table (pos 4) inserted.values,
      has-to (made_rows 4 target_table (greatest_of target_rows) 0 target_rows little_order) (written_row 4 target_table (pos 4) inserted.values) (inl refl),
      refl,
    )))
each-touched z (inr (inr (inr (inr h)))) = absurd h

met-among : (row : TableRow) (z : ℤ) → Has row target_rows → row.rowid ≡ z → Has z rowids
met-among row z (inl s) e = inl (ap (λ (r : TableRow). r.rowid) s ∙ e)
met-among row z (inr (inl s)) e = inr (inl (ap (λ (r : TableRow). r.rowid) s ∙ e))
met-among row z (inr (inr (inl s))) e = inr (inr (inl (ap (λ (r : TableRow). r.rowid) s ∙ e)))
met-among row z (inr (inr (inr h))) e = absurd h

made-among : (row : TableRow) (z : ℤ) → Has row (written_row 4 target_table (pos 4) inserted.values ∷ []) → row.rowid ≡ z → Has z rowids
made-among row z (inl s) e = inr (inr (inr (inl (ap (λ (r : TableRow). r.rowid) s ∙ e))))
made-among row z (inr h) e = absurd h

among : (z : ℤ) → Touched z → Contains rowids z
unfolding value_cmp
among z (inl (inl met)) = has-to rowids z (met-among met.0 z (has-from target_rows met.0 met.1) met.2)
among z (inl (inr made)) = has-to rowids z (made-among made.0 z (has-from (written_row 4 target_table (pos 4) inserted.values ∷ []) made.0 made.1) made.2)
among z (inr later) = absurd later.2

pub returns-clause-placed : goal.returns-clause-placed
returns-clause-placed c = (refl, (refl, (refl, tt)))

pub returns-clause-pairs : goal.returns-clause-pairs
returns-clause-pairs c = record {
  rowids = rowids;
  rise = pairs-from (λ (a b : ℤ). a <ℤ b) rowids
      ((omega (arith, ints), (omega (arith, ints), (omega (arith, ints), tt))), ((omega (arith, ints), (omega (arith, ints), tt)), ((omega (arith, ints), tt), (tt, tt))));
  touched = λ z stands. each-touched z (has-from rowids z stands);
  all = among;
  sides = (
    (side-row target_rows old_apart old_one (inl refl), side-row little_after after_apart new_one (inl refl)),
    (
      (side-row target_rows old_apart old_two (inr (inl refl)), side-none little_after (pos 2) (λ e. omega (arith, ints, e), (λ e. omega (arith, ints, e), (λ e. omega (arith, ints, e), tt)))),
      (
        (side-row target_rows old_apart old_three (inr (inr (inl refl))), side-row little_after after_apart new_three (inr (inl refl))),
        ((side-none target_rows (pos 4) (λ e. omega (arith, ints, e), (λ e. omega (arith, ints, e), (λ e. omega (arith, ints, e), tt))), side-row little_after after_apart new_four (inr (inr (inl refl)))), tt),
      ),
    ),
  );
}
