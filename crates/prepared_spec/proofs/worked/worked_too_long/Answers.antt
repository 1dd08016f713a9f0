use Rattle.std.proofs.Common.{◌≡◌, ℕ, ◌<◌, ◌≤◌, Bool, true, false, List, length, Option, Some, None, if◌then◌else◌, ap, arith}
use Rattle.std.specs.Prelude.{codes, pos, nat_lt}
use Rattle.prepared_spec.specs.declared.input_fault.RecordCause.TheVariants.{SizeOverLimit}
use Rattle.prepared_spec.specs.declared.input_fault.InputFault.{InputFault}
use Rattle.prepared_spec.specs.declared.input_fault.InputFault.TheVariants.{TargetRecord}
use Rattle.prepared_spec.specs.StepRecords.{greatest_payload, or_else}
use Rattle.prepared_spec.proofs.worked.worked_too_long.Goals as goal

abbrev told : Bool → Option InputFault
told long = or_else (if long then Some (TargetRecord (codes "t1") (pos 4) SizeOverLimit) else None) None

pub returns-clause-long : goal.returns-clause-long
returns-clause-long c = λ payload more. ap told (let e : nat_lt greatest_payload (length payload) ≡ true = grind (arith, more) in e)

pub returns-clause-short : goal.returns-clause-short
returns-clause-short c = λ payload few. ap told (let e : nat_lt greatest_payload (length payload) ≡ false = grind (arith, few) in e)
