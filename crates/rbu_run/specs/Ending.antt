-- What the update leaves of the files, to the byte.
use Rattle.std.specs.Prelude.{◌≡◌, ◌⊎◌, ℕ, List, Result, Ok, Err}
use Rattle.file_spec.specs.Files.{Files}
use Rattle.format_spec.specs.Log.{AreWords}
use Rattle.update_spec.specs.declared.Outcome.{Outcome}
use Rattle.update_spec.specs.declared.Outcome.TheVariants.{Done, KeyPresent, Refused}
use Rattle.update_spec.specs.Update.{IsLook, AfterOutcome}
use Rattle.small_spec.specs.SmallUpdate.{AreNewBytes, IsFinished, small_inserts}
use Rattle.rbu_run.specs.Handover.{IsMidway}
use Rattle.rbu_run.specs.Inspection.{HasOnly}
use Rattle.update_spec.specs.declared.Answer.{Answer}
use Rattle.update_spec.specs.declared.Answer.TheVariants as answer
use Rattle.rbu_query.specs.declared.halt.Halt.{Halt}
use Rattle.rbu_query.specs.declared.halt.Halt.TheVariants.{Fault, Memory}

-- an outcome: an update that is done leaves the new bytes
abbrev pub LeavesBytes : Outcome → Files → Files → Type 0
LeavesBytes Done before after = IsFinished before after
LeavesBytes (KeyPresent table data_rowid) before after = AfterOutcome small_inserts (KeyPresent table data_rowid) before after
LeavesBytes (Refused refusal) before after = AfterOutcome small_inserts (Refused refusal) before after

-- the update was due, and its handover stopped midway
pub record StopsMidway (salt : ℕ × ℕ) (before after : Files) : Type 0 where
  pub salt_fits : AreWords salt
  pub bytes : List ℕ
  pub new_bytes : AreNewBytes before bytes
  pub midway : IsMidway salt bytes before after

-- a halt: a fault leaves the files as they were, or midway where it is of no look; want of memory changes nothing
abbrev pub AfterHalt : ℕ × ℕ → Halt → Files → Files → Type 0
AfterHalt salt (Fault fault) before after = (after ≡ before) ⊎ ((¬ IsLook fault.call) × StopsMidway salt before after)
AfterHalt salt Memory before after = after ≡ before

-- how the update ended: by the only outcome of the files, or by a halt
abbrev pub Ends : ℕ × ℕ → Result Outcome Halt → Files → Files → Type 0
Ends salt (Ok outcome) before after = LeavesBytes outcome before after × HasOnly before outcome
Ends salt (Err halt) before after = AfterHalt salt halt before after

-- the same of the answer that says how it ended
abbrev pub EndsAs : ℕ × ℕ → Answer → Files → Files → Type 0
EndsAs salt answer.Usage before after = ⊥
EndsAs salt (answer.Ended outcome) before after = Ends salt (Ok outcome) before after
EndsAs salt (answer.Printed text) before after = ⊥
EndsAs salt (answer.Fault file call) before after = Ends salt (Err (Fault (record { file = file; call = call }))) before after
EndsAs salt answer.NoMemory before after = Ends salt (Err Memory) before after
