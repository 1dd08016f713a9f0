-- A call that does more than look at a file.
use Rattle.std.specs.Prelude.{Result, IfErr}
use Rattle.rbu_disk.specs.declared.disk.DiskFault.{DiskFault}
use Rattle.update_spec.specs.Update.{IsLook}

-- the call that failed, if one did, does more than look at a file
abbrev pub FailsAtChange : {T : Type 0} → Result T DiskFault → Type 0
FailsAtChange result = IfErr result (λ fault. ¬ IsLook fault.call)
