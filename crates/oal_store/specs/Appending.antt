-- Frames that are appended to the hidden log.
use Rattle.std.specs.Prelude.{◌≡◌, ℕ, ◌==◌, true, if◌then◌else◌, List, [], ◌∷◌, ◌++◌, length, Vec}
use Rattle.std.specs.Global.{Global}
use Rattle.file_spec.specs.declared.FileName.TheVariants.{Oal}
use Rattle.file_spec.specs.Files.{Files, content}
use Rattle.format_spec.specs.Log.{Frame}
use Rattle.rbu_disk.specs.declared.disk.Disk.{Ghosts}
use Rattle.rbu_disk.specs.Uses.{Writes}

-- the frames of these pages in their order, of which the last is a commit of so many pages
abbrev pub frames_of : ℕ → List (ℕ × Vec ℕ Global) → List Frame
frames_of commit [] = []
frames_of commit (e ∷ es) = record { number = e.0; commit = if length es == 0 then commit else 0; page = e.1.items } ∷ frames_of commit es

-- Where the hidden log begins with so many bytes, these follow them now.
abbrev pub Appends : ℕ → List ℕ → Files → Files → Type 0
Appends at bytes before after = (front rest : List ℕ) → content before Oal ≡ front ++ rest → length front ≡ at →
    (left : List ℕ) × (content after Oal ≡ (front ++ bytes) ++ left)

module _ {D : Type 0} (g : Ghosts D) where
  -- the hidden log may be written
  abbrev pub AllowsAppending : D → Type 0
  AllowsAppending disk = (at : ℕ) (bytes : List ℕ) → g.test disk (Writes Oal at bytes) ≡ true
