-- A disk that passes so many calls on, and then fails.
use Rattle.std.specs.Prelude.{◌≡◌, ◌≢◌, ℕ, ◌+◌, Option, Result, IsErr, IfErr}
use Rattle.rbu_disk.specs.declared.disk.Disk.{Ghosts}
use Rattle.rbu_disk.specs.declared.disk.DiskFault.{DiskFault}
use Rattle.rbu_disk.specs.Call.{Failures, Fails}

-- the disk to which calls are passed, how many more are, and the calls that failed
pub record FusedState (D : Type 0) : Type 0 where
  pub disk : D
  pub left : ℕ
  pub faults : ℕ
  pub last_fault : Option DiskFault

-- the calls of a fused disk that failed, its own and those that the disk below failed
abbrev pub fused_failures : {D : Type 0} → FusedState D → Failures
fused_failures fused = record { count = fused.faults; last = fused.last_fault }

-- A call is passed on while any are left, and then fails only where the disk below failed it. With none left it fails, and nothing is passed on.
pub record PassesOrFails {D T : Type 0} (g : Ghosts D) (before after : FusedState D) (result : Result T DiskFault) : Type 0 where
  pub spent : before.left ≡ 0 → IsErr result × (after.disk ≡ before.disk) × (after.left ≡ 0)
  pub passed : before.left ≢ 0 → (after.left + 1 ≡ before.left) × IfErr result (Fails (g.failures before.disk) (g.failures after.disk))
