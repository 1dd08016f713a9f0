use Rattle.delete_spec.specs.StepsLaws.{delete-in-world}
use Rattle.delete_spec.proofs.laws.writer_deletes_in_a_world.Goals as goal

pub returns : goal.returns
returns c = delete-in-world
