use Rattle.std.proofs.Common.{◌≡◌, [], length, take, Some}
use Rattle.std.specs.List.{flat_map}
use Rattle.file_spec.specs.declared.FileName.TheVariants.{Oal}
use Rattle.file_spec.specs.Files.{with_file, OnlyChanges}
use Rattle.rbu_disk.specs.Disk.{AllowsAll, Goes, GoesOn}
use Rattle.rbu_run.specs.Phases.{KeepsBuilding}
use Rattle.rbu_run.proofs.handover.write_parts.Given as goal

abbrev pub invariant-loop-part : goal.invariant-loop-part
invariant-loop-part g l =
    let written = flat_map (λ part. part.now) (take l.part-index l.parts) in
    record {
      place : l.at ≡ length written;
      wrote : Goes g.D.Disk l.fn.disk l.disk (λ f h. f Oal ≡ Some [] → h ≡ with_file f Oal (Some written));
      only : Goes g.D.Disk l.fn.disk l.disk (OnlyChanges Oal);
      moments : GoesOn g.D.Disk l.fn.disk l.disk KeepsBuilding;
      allowed : AllowsAll g.D.Disk l.disk;
      still : g.D.Disk.failures l.disk ≡ g.D.Disk.failures l.fn.disk;
    }
