use Rattle.std.proofs.Common.{ℤ, Option, rules, sym, subst, ◌∙◌, take}
use Rattle.std.proofs.Math.Path.{subst⁻¹}
use mir.Syntax.{w64}
use mir.Val.{SFits}
use Rattle.std.proofs.lemmas.Int.{to_z-of_z}
use Rattle.database_spec.specs.declared.fault.FileFault.TheVariants as fault
use Rattle.database_spec.specs.RightRows.{RowHasFault}
use Rattle.schema_read.specs.Checks.{JudgesRow, member_at}
use Rattle.schema_read.specs.Found.{rows_in}
use Rattle.schema_read.specs.declared.check.Placed.{Placed}
use Rattle.schema_read.proofs.Checking.{row-passes, row-repeats, row-wrong}
use Rattle.schema_read.proofs.check.check_row.Goals as goal

pub returns-then-repeats : goal.returns-then-repeats
returns-then-repeats c = λ sizes base is.
    row-repeats sizes base c.args.basis.format c.args.members.now (take c.args.at c.args.members.now) c.args.this.now c.in-Some.row c.duplicate_row.result c.in-Some.is
    (subst (λ (o : Option (Option Placed)). JudgesRow sizes base c.args.basis.format c.args.members.now (take c.args.at c.args.members.now) c.in-Some.row o) c.in-Ok-Some.field-0-is (c.in-Ok-Some.ensures sizes base is)).0
    (sym c.repeats.ensures ∙ c.if-repeats.true) c.duplicate_row.ensures

pub returns-else-repeats : goal.returns-else-repeats
returns-else-repeats c = λ sizes base is.
    row-passes sizes base c.args.basis.format c.args.members.now (take c.args.at c.args.members.now) c.args.this.now c.in-Some.row c.in-Ok-Some.placed c.in-Some.is
    (subst (λ (o : Option (Option Placed)). JudgesRow sizes base c.args.basis.format c.args.members.now (take c.args.at c.args.members.now) c.in-Some.row o) c.in-Ok-Some.field-0-is (c.in-Ok-Some.ensures sizes base is))
    (sym c.repeats.ensures ∙ c.if-repeats.false)

pub returns-in-Ok-None : goal.returns-in-Ok-None
returns-in-Ok-None c = λ sizes base is.
    let fits : SFits w64 c.args.this.now.rowid = search rules in
    subst⁻¹ (λ (z : ℤ). RowHasFault sizes base (rows_in c.args.members.now) (rows_in (take c.args.at c.args.members.now)) (member_at c.args.this.now) c.args.this.now.row (fault.SchemaRow z)) (to_z-of_z w64 c.args.this.now.rowid fits)
    (row-wrong sizes base c.args.basis.format c.args.members.now (take c.args.at c.args.members.now) c.args.this.now c.in-Some.row c.in-Some.is
    (subst (λ (o : Option (Option Placed)). JudgesRow sizes base c.args.basis.format c.args.members.now (take c.args.at c.args.members.now) c.in-Some.row o) c.in-Ok-None.field-0-is (c.in-Ok-None.ensures sizes base is)))
