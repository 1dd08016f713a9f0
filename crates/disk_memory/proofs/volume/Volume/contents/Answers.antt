use Rattle.std.proofs.Common.{ap, ◌∙◌}
use Rattle.file_spec.specs.Files.{Files}
use Rattle.disk_memory.specs.Volume.{VolumeState, files_at, files_in, slot_file}
use Rattle.disk_memory.proofs.volume.Volume.contents.Goals as goal

pub returns : goal.returns
returns c =
    c.slot_bytes.ensures
    ∙ ap (slot_file (files_at c.self.inside.start)) c.slot_of.ensures
    ∙ ap (λ (files : Files). files c.args.name) c.self.invariant.0
    ∙ ap (λ (volume : VolumeState). files_in volume c.args.name) c.self.view_is
