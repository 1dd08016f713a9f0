-- A write that failed changed nothing, which is less than it may.
use Rattle.std.proofs.Common.{Some, ap, inl, refl, rules}
use Rattle.common_spec.specs.ToldLaws.{Leads-same}
use Rattle.disk_memory.specs.Volume.{VolumeState, files_in}
use Rattle.std.proofs.lemmas.Result.{on_err_weaker}
use Rattle.disk_memory.proofs.disk.MemoryDiskDisk.TheImpl.Goals as goal

pub write_at-tells : goal.write_at-tells
write_at-tells c = record {
  done = search rules;
  failed = on_err_weaker c.result (λ same. Leads-same (ap (λ (volume : VolumeState). Some (files_in volume)) same) (λ f. inl refl)) c.ensures.failed;
  limit = search rules;
  moments = search rules;
  test = search rules;
  cause = search rules;
}
