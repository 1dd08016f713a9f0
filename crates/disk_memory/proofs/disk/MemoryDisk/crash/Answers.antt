use Rattle.std.proofs.Common.{◌≡◌, List, sym, ap, ◌∙◌, subst}
use Rattle.file_spec.specs.Files.{Files}
use Rattle.file_spec.specs.Records.{IsImage}
use Rattle.disk_memory.specs.declared.volume.Step.{Step}
use Rattle.disk_memory.specs.Volume.{VolumeState, files_at, files_in, trail_of}
use Rattle.disk_memory.specs.VolumeLaws.{first-shown, sound-trail}
use Rattle.disk_memory.specs.Crash.{LeavesBy}
use Rattle.disk_memory.specs.CrashLaws.{leaves-image}
use Rattle.disk_memory.specs.Disk.{DiskState}
use Rattle.disk_memory.proofs.disk.MemoryDisk.crash.Goals as goal

-- the files that were left, over the disk as the caller sees it
left : (c : goal.After-new-2) → LeavesBy c.args.choice (trail_of c.args.self.now.volume).now.at (files_at c.in_ok-crash.field-0.start)
left c =
    subst (λ (volume : VolumeState). LeavesBy c.args.choice (trail_of volume).now.at (files_at c.in_ok-crash.field-0.start)) (ap (λ (disk : DiskState). disk.volume) c.self.view_is) c.in_ok-crash.ensures.left

shown : (c : goal.After-new-2) → files_in c.in_ok-crash.field-0 ≡ files_at c.in_ok-crash.field-0.start
shown c =
    ap (λ (steps : List Step). files_in (record { start = c.in_ok-crash.field-0.start; steps = steps })) c.in_ok-crash.ensures.steps ∙ first-shown c.in_ok-crash.field-0.start

pub returns-clause-left : goal.returns-clause-left
returns-clause-left c = subst (λ (files : Files). LeavesBy c.args.choice (trail_of c.args.self.now.volume).now.at files) (sym (shown c)) (left c)

pub returns-clause-image : goal.returns-clause-image
returns-clause-image c =
    subst (λ (files : Files). IsImage (trail_of c.args.self.now.volume).now.at files) (sym (shown c))
    (leaves-image c.args.choice (trail_of c.args.self.now.volume).now.at (files_at c.in_ok-crash.field-0.start) (sound-trail c.args.self.now.volume) (left c))

pub returns-clause-trail : goal.returns-clause-trail
returns-clause-trail c = (
  files_at c.in_ok-crash.field-0.start,
  leaves-image c.args.choice (trail_of c.args.self.now.volume).now.at (files_at c.in_ok-crash.field-0.start) (sound-trail c.args.self.now.volume) (left c),
  ap (λ (steps : List Step). trail_of (record { start = c.in_ok-crash.field-0.start; steps = steps })) c.in_ok-crash.ensures.steps,
)
