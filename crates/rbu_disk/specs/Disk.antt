-- What a function over a disk says of it. Each word takes the disk's members, as `D.Disk`, and the disk before and after.
use Rattle.std.specs.Prelude.{◌≡◌, ◌≤◌, Option, Some, None, Result, IfOk, IfErr, IfSome, OnOk}
use Rattle.common_spec.specs.Told.{Leads}
use Rattle.file_spec.specs.Files.{Files}
use Rattle.file_spec.specs.Records.{Record}
use Rattle.file_spec.specs.Trails.{Trail}
use Rattle.rbu_disk.specs.declared.disk.Disk.{Ghosts}
use Rattle.rbu_disk.specs.declared.disk.DiskFault.{DiskFault}
use Rattle.rbu_disk.specs.Call.{Failures, Fails}
use Rattle.rbu_disk.specs.Uses.{AllowsEvery}

-- the cause of an error: where it is a fault of the disk, that of the last call that failed; else no call failed
abbrev pub IsCause : Option DiskFault → Failures → Failures → Type 0
IsCause (Some fault) before now = Fails before now fault
IsCause None before now = now ≡ before

module _ {D : Type 0} (g : Ghosts D) where
  -- the disk allows every call
  abbrev pub AllowsAll : D → Type 0
  AllowsAll disk = AllowsEvery (g.test disk)

  -- the files went by R, where the disk tells them
  abbrev pub Goes : D → D → (Files → Files → Type 0) → Type 0
  Goes before after R = Leads R (g.shown before) (g.shown after)

  -- the disk's moments went on by R, where it tells them
  abbrev pub GoesOn : D → D → (Trail → Trail → Type 0) → Type 0
  GoesOn before after R = Leads R (g.trail before) (g.trail after)

  -- the record of the moment now has P, where the disk tells it
  abbrev pub HasNow : D → (Record → Type 0) → Type 0
  HasNow disk P = IfSome (g.trail disk) (λ t. P t.now.at)

  -- the disk stays, but for its count of faults, and what is answered holds of the files, where the disk tells them
  pub record Looks {T E : Type 0} (before after : D) (result : Result T E) (Is : T → Files → Type 0) : Type 0 where
    pub same : g.shown after ≡ g.shown before
    pub answer : IfOk result (λ x. IfSome (g.shown before) (Is x))
    pub moments : g.trail after ≡ g.trail before
    pub test : g.test after ≡ g.test before

  -- The calls on the disk that failed are counted, and an error has its cause: `fault_in` is the fault of the disk that it has, if any. A disk that allows every call goes on doing so.
  pub record OwesBy {T E : Type 0} (fault_in : E → Option DiskFault) (before after : D) (result : Result T E) : Type 0 where
    pub later : (g.failures before).count ≤ (g.failures after).count
    pub still : OnOk result (g.failures after ≡ g.failures before)
    pub cause : IfErr result (λ error. IsCause (fault_in error) (g.failures before) (g.failures after))
    pub allows : AllowsAll before → AllowsAll after

  -- the same where each error is a fault of the disk
  abbrev pub Owes : {T : Type 0} → D → D → Result T DiskFault → Type 0
  Owes before after result = OwesBy Some before after result
