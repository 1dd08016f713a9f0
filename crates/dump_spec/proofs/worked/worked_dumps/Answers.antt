use Rattle.std.proofs.Common.{◌≡◌, ℕ, List, [], ◌∷◌, Ok, codes, refl, subst, inr, arith}
use Rattle.std.specs.Fmt.{digits}
use Rattle.rbu_value.specs.declared.value.Value.TheVariants.{Null, Text}
use Rattle.format_spec.specs.Record.{IsRecord}
use Rattle.prepared_spec.specs.declared.input_fault.RecordCause.TheVariants.{ShortRecord}
use Rattle.database_spec.specs.LittleTarget.{target_base, target_catalog, target_entry, target_rows, target_sizes, target_table}
use Rattle.database_spec.specs.LittleTargetLaws.{one_byte}
use Rattle.dump_spec.specs.TableDumps.{lines_of, IsTableAnswer}
use Rattle.dump_spec.specs.TableDumpsLaws.{plain-printed}
use Rattle.dump_spec.proofs.worked.worked_dumps.Goals as goal

lines : lines_of target_rows ≡ codes "1|1|'one'|10\n2|2|'two'|20\n3|3|'three'|30\n"
unfolding digits
lines = refl

pub returns-clause-table : goal.returns-clause-table
returns-clause-table c =
    subst (λ (text : List ℕ). IsTableAnswer target_sizes target_base (codes "T1") (Ok text)) lines
    (plain-printed target_sizes target_base (codes "T1") target_catalog c.worked_target.ensures.catalog (record { name = codes "t1"; entry = target_entry }) refl target_table target_rows c.worked_target.ensures.plain)

pub returns-clause-none : goal.returns-clause-none
returns-clause-none c = inr (target_catalog, c.worked_target.ensures.catalog, refl)

two_values : IsRecord (3 ∷ 0 ∷ 15 ∷ 120 ∷ []) (Null ∷ Text (120 ∷ []) ∷ [])
two_values = record {
  size = 3 ∷ [];
  types = 0 ∷ 15 ∷ [];
  bodies = 120 ∷ [];
  whole = refl;
  header = one_byte 3 (omega arith);
  fields = (0, 0 ∷ [], [], 15 ∷ [], 120 ∷ [], one_byte 0 (omega arith), refl, refl, (refl, refl), (15, 15 ∷ [], 120 ∷ [], [], [], one_byte 15 (omega arith), refl, refl, (refl, refl), (refl, refl)));
}

pub returns-clause-short : goal.returns-clause-short
returns-clause-short c = inr (ShortRecord, (Null ∷ Text (120 ∷ []) ∷ [], two_values, λ e. omega (arith, e)), refl)
