use Rattle.std.proofs.Common.{◌↔◌, IsTrue, sym, subst}
use Rattle.schema_spec.specs.declared.schema.Clause.{Clause}
use Rattle.schema_spec.specs.Causes.{HasCause}
use Rattle.schema_sql.proofs.TableColumns.{real-cause}
use Rattle.schema_sql.proofs.causes.has_cause.Goals as goal

pub returns-in-Real : goal.returns-in-Real
returns-in-Real c =
    let P : Clause → Type 0 = λ clause. IsTrue c.has_real.result ↔ HasCause c.args.text.now c.args.table.now clause in
    subst P (sym c.in-Real.is)
    (real-cause c.args.text.now c.args.table.now.columns c.args.parts.now.columns c.as_slice-in-Real.result.now c.has_real.result c.requires.columns c.as_slice-in-Real.ensures c.has_real.ensures)
