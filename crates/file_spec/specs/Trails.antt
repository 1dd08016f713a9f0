-- The moments of a disk from its making on, and what holds of those that come.
use Rattle.std.specs.Prelude.{◌≡◌, ◌⊎◌, ℕ, List, [], ◌∷◌, ◌++◌, length, drop, Option, Some}
use Rattle.file_spec.specs.declared.FileName.{FileName}
use Rattle.file_spec.specs.declared.DiskCall.{DiskCall}
use Rattle.file_spec.specs.Files.{Files}
use Rattle.file_spec.specs.Records.{Record, IsImage}

-- a record, and the file and the call that added it; the first has none
pub record Moment : Type 0 where
  pub at : Record
  pub by : Option (FileName × DiskCall)

-- the moments of a disk: the earlier ones, the first of them in front, and the one now
pub record Trail : Type 0 where
  pub earlier : List Moment
  pub now : Moment

-- all of them
abbrev pub moments : Trail → List Moment
moments t = t.earlier ++ t.now ∷ []

-- the clock: the last place of the trail
abbrev pub clock : Trail → ℕ
clock t = length t.earlier

-- each of the moments has Q
abbrev pub Each : (Record → Type 0) → List Moment → Type 0
Each Q [] = Unit {0}
Each Q (m ∷ ms) = Q m.at × Each Q ms

-- one of the moments has Q
abbrev pub Some_of : (Record → Type 0) → List Moment → Type 0
Some_of Q [] = ⊥
Some_of Q (m ∷ ms) = Q m.at ⊎ Some_of Q ms

-- the files that a crash at some moment since this clock value may have left
abbrev pub IsImageSince : ℕ → Trail → Files → Type 0
IsImageSince since t files = Some_of (λ r. IsImage r files) (drop since (moments t))

-- The trail went on, and each moment that came has Q.
pub record Passes (Q : Record → Type 0) (before after : Trail) : Type 0 where
  pub later : List Moment
  pub goes_on : moments after ≡ moments before ++ later
  pub each : Each Q later

-- the trail went on by one moment, whose record R relates to the last one
pub record Adds (file : FileName) (call : DiskCall) (R : Record → Record → Type 0) (before after : Trail) : Type 0 where
  pub record_now : Record
  pub is : after ≡ record { earlier = moments before; now = record { at = record_now; by = Some (file, call) } }
  pub step : R before.now.at record_now
