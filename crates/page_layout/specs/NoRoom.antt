-- When cells have room in a page.
use Rattle.std.specs.Prelude.{◌≡◌, ℕ, ◌-◌, ◌^◌, ◌<◌, ◌≤◌, min, Result, Ok, Err}
use Rattle.page_layout.specs.declared.rebuilding.NoRoom.{NoRoom}

-- What is needed is no more than what is free; or it is more, and the error has both numbers.
abbrev pub Fits : {T : Type 0} → ℕ → ℕ → Result T NoRoom → Type 0
Fits needs free (Ok found) = needs ≤ free
Fits needs free (Err full) = (free < needs) × (full ≡ record { needs = min needs (2 ^ 64 - 1); free = free })
