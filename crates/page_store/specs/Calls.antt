-- What a call leaves of a store, in terms of single members.
use Rattle.std.specs.Prelude.{◌≡◌, ℕ, ◌≤◌}
use Rattle.page_spec.specs.Pages.{Pages}

-- the pages up to both counts stay
abbrev pub KeepsUpTo : ℕ → ℕ → Pages → Pages → Type 0
KeepsUpTo before after old new = (n : ℕ) → n ≤ before → n ≤ after → new n ≡ old n
