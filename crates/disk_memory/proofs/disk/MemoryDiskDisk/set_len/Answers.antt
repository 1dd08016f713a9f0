use Rattle.std.proofs.Common.{◌≡◌, ap, ◌∙◌}
use Rattle.disk_memory.specs.Disk.{DiskState}
use Rattle.disk_memory.specs.VolumeLaws.{files-length, trail-length}
use Rattle.disk_memory.proofs.disk.MemoryDiskDisk.set_len.Goals as goal

-- the volume is that at the start of the call
same : (c : goal.In-Ok) → c.self.inside.volume ≡ c.args.self.now.volume
same c = ap (λ (disk : DiskState). disk.volume) c.self.view_is ∙ c.in_ok-count_growth.ensures.same

pub returns-in-Ok-clause-done : goal.returns-in-Ok-clause-done
returns-in-Ok-clause-done c = rw (c.in-Ok.ensures.done, same c) (files-length c.args.self.now.volume c.args.name c.args.n)

pub returns-in-Ok-clause-moments : goal.returns-in-Ok-clause-moments
returns-in-Ok-clause-moments c = rw (c.in-Ok.ensures.done, same c) (trail-length c.args.self.now.volume c.args.name c.args.n)
