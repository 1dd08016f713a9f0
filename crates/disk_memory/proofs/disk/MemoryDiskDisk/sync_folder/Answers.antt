use Rattle.std.proofs.Common.{◌≡◌, ap, ◌∙◌}
use Rattle.disk_memory.specs.Disk.{DiskState}
use Rattle.disk_memory.specs.VolumeLaws.{files-settled, trail-settled}
use Rattle.disk_memory.proofs.disk.MemoryDiskDisk.sync_folder.Goals as goal

-- the volume is that at the start of the call
same : (c : goal.In-Ok) → c.self.inside.volume ≡ c.args.self.now.volume
same c = ap (λ (disk : DiskState). disk.volume) c.self.view_is ∙ c.in_ok-count_call.ensures.same

pub returns-in-Ok-clause-same : goal.returns-in-Ok-clause-same
returns-in-Ok-clause-same c = rw (c.in-Ok.ensures.done, same c) (files-settled c.args.self.now.volume)

pub returns-in-Ok-clause-moments : goal.returns-in-Ok-clause-moments
returns-in-Ok-clause-moments c = rw (c.in-Ok.ensures.done, same c) (trail-settled c.args.self.now.volume)
