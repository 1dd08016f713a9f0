-- What a caller of a value with lock steps asks of what the value is beside its locks. Each word takes the value's members, as `L.LockSteps`.
use Rattle.std.specs.Prelude.{◌≡◌, ℕ}
use Rattle.lock_steps.specs.declared.steps.LockSteps.{Ghosts}
use Rattle.lock_steps.specs.Locks.{Step}

-- every lock step leaves this part of the value as it was
abbrev pub Leaves : {L A : Type 0} → Ghosts L → (L → A) → Type 0
Leaves {L} g part = (before after : L) (step : Step) (count : ℕ) → g.told after ≡ g.after step count (g.told before) → part after ≡ part before
