use Rattle.std.proofs.Common.{◌∙◌}
use Rattle.disk_memory.specs.VolumeLaws.{first-shown}
use Rattle.disk_memory.proofs.disk.MemoryDisk.new.Goals as goal

pub returns-clause-files : goal.returns-clause-files
returns-clause-files c = rw c.new.ensures.steps (first-shown c.new.result.start) ∙ c.new.ensures.start
