use Rattle.std.proofs.Math.Path.{fun_ext}
use Rattle.file_spec.specs.declared.FileName.TheVariants.{Target, Oal, Wal, Journal, Rbu, State, StateTemp}
use Rattle.disk_memory.proofs.replay.first_numbers.Goals as goal

pub returns : goal.returns
returns c = fun_ext (elim [
  | Target ↦ c.first_number.ensures
  | Oal ↦ c.first_number-2.ensures
  | Wal ↦ c.first_number-3.ensures
  | Journal ↦ c.first_number-4.ensures
  | Rbu ↦ c.first_number-5.ensures
  | State ↦ c.first_number-6.ensures
  | StateTemp ↦ c.first_number-7.ensures
])
