use Rattle.std.proofs.Common.{◌≡◌, ℕ, ℤ, pos, ◌<ℤ◌, ◌⊎◌, Bool, true, false, List, [], ◌∷◌, Option, Some, None, refl, sym, ◌∙◌, subst, inl, inr, arith}
use Rattle.std.specs.Prelude.{AllPairs, Contains, IfSome}
use Rattle.std.specs.List.{AllByRecursion}
use Rattle.std.proofs.lemmas.Int.{ints}
use Rattle.rbu_value.specs.Order.{value_cmp}
use Rattle.format_spec.specs.Record.{canonical_record}
use Rattle.format_spec.specs.Varint as spelled
use Rattle.rbu_rows.specs.declared.prepared.Prepared.{Prepared}
use Rattle.schema_spec.specs.declared.schema.Table.{Table}
use Rattle.database_spec.specs.Rows.{TableRow}
use Rattle.database_spec.specs.ListsLaws.{pairs-from}
use Rattle.database_spec.specs.LittleTarget.{target_rows, target_table}
use Rattle.prepared_spec.specs.ChangesLaws.{all-has}
use Rattle.prepared_spec.specs.LittleUpdate.{deleted, inserted, little_after, replaced_row, updated}
use Rattle.prepared_spec.specs.MembersLaws.{Has, has-from, has-to, true-false}
use Rattle.prepared_spec.specs.RowKeys.{meets}
use Rattle.prepared_spec.specs.StepRecords.{put_row}
use Rattle.pass_spec.specs.LittleTableSteps.{one_behind, two_behind, three_behind}
use Rattle.pass_spec.specs.TableSteps.{IsStepped}
use Rattle.pass_spec.proofs.worked.worked_steps.Goals as goal

-- a step, item by item
stepped-are : (format : ℕ) (table : Table) (g : ℤ) (taken : ℕ) (p : Prepared) (old new : List TableRow) (put : Option TableRow) → put_row format table g taken old p ≡ put → IfSome put (λ row. Has row new)
    → AllByRecursion (λ (row : TableRow). (meets table row p ≡ true) ⊎ Has row new) old → AllByRecursion (λ (row : TableRow). (put ≡ Some row) ⊎ (Has row old × (meets table row p ≡ false))) new
    → AllPairs (λ (a b : TableRow). a.rowid <ℤ b.rowid) new → IsStepped format table g taken p old new
stepped-are format table g taken p old new put is there kept only rise = record {
  put = λ row e. has-to new row (by row put (sym is ∙ e) there);
  kept = λ row c u.
      elim (all-has (λ (r : TableRow). (meets table r p ≡ true) ⊎ Has r new) old row kept (has-from old row c)) [ inl m ↦ absurd (true-false (meets table row p) m u) | inr h ↦ has-to new row h ];
  only = λ row c.
      elim (all-has (λ (r : TableRow). (put ≡ Some r) ⊎ (Has r old × (meets table r p ≡ false))) new row only (has-from new row c)) [ inl e ↦ inl (is ∙ e) | inr both ↦ inr (has-to old row both.0, both.1) ];
  rise = rise;
}
  where
    by : (row : TableRow) (o : Option TableRow) → o ≡ Some row → IfSome o (λ (r : TableRow). Has r new) → Has row new
    by row None e h = absurd (let no : ⊥ = cc in no)
    by row (Some r) e h = let same : r ≡ row = cc in subst (λ (x : TableRow). Has x new) same h

abbrev Before : TableRow → TableRow → Type 0
Before a b = a.rowid <ℤ b.rowid

pub returns-clause-first : goal.returns-clause-first
unfolding value_cmp canonical_record spelled.varint spelled.varint_front
returns-clause-first c =
    stepped-are 4 target_table (pos 3) 0 updated target_rows one_behind _ refl (inl refl) (inl refl, (inr (inr (inl refl)), (inr (inr (inr (inl refl))), tt)))
    (inl refl, (inr (inr (inl refl), refl), (inr (inr (inr (inl refl)), refl), tt)))
    (pairs-from Before one_behind ((omega (arith, ints), (omega (arith, ints), tt)), ((omega (arith, ints), tt), (tt, tt))))

pub returns-clause-second : goal.returns-clause-second
unfolding value_cmp canonical_record spelled.varint spelled.varint_front
returns-clause-second c =
    stepped-are 4 target_table (pos 3) 0 deleted one_behind two_behind None refl tt (inr (inl refl), (inl refl, (inr (inr (inl refl)), tt))) (inr (inl refl, refl), (inr (inr (inr (inl refl)), refl), tt))
    (pairs-from Before two_behind ((omega (arith, ints), tt), (tt, tt)))

pub returns-clause-third : goal.returns-clause-third
unfolding value_cmp canonical_record spelled.varint spelled.varint_front
returns-clause-third c =
    stepped-are 4 target_table (pos 3) 0 replaced_row two_behind three_behind _ refl (inr (inl refl)) (inr (inl refl), (inl refl, tt)) (inr (inl refl, refl), (inl refl, tt))
    (pairs-from Before three_behind ((omega (arith, ints), tt), (tt, tt)))

pub returns-clause-fourth : goal.returns-clause-fourth
unfolding value_cmp canonical_record spelled.varint spelled.varint_front
returns-clause-fourth c =
    stepped-are 4 target_table (pos 3) 0 inserted three_behind little_after _ refl (inr (inr (inl refl))) (inr (inl refl), (inr (inr (inl refl)), tt)) (inr (inl refl, refl), (inr (inr (inl refl), refl), (inl refl, tt)))
    (pairs-from Before little_after ((omega (arith, ints), (omega (arith, ints), tt)), ((omega (arith, ints), tt), (tt, tt))))

pub returns-clause-makes : goal.returns-clause-makes
unfolding value_cmp
returns-clause-makes c = refl

pub returns-clause-makes_none : goal.returns-clause-makes_none
unfolding value_cmp
returns-clause-makes_none c = refl
