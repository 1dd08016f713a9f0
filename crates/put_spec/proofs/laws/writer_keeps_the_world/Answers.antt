use Rattle.put_spec.specs.WorldsLaws.{put-in-world}
use Rattle.put_spec.proofs.laws.writer_keeps_the_world.Goals as goal

pub returns : goal.returns
returns c = put-in-world
