-- What follows from the rule.
use Rattle.std.specs.Prelude.{◌≡◌, ◌↔◌, ℕ, true, slice_index, Option}
use mathlib.Core.Option.{some}
use lib.ListN.{get_elem?}
use Rattle.atomic_table.specs.Table.{State}
use Rattle.turn_lock.specs.declared.story.Story.{Ghosts}
use Rattle.turn_lock.specs.declared.view.View.{View}
use Rattle.turn_lock.specs.Rule.{IsHeld, Kept}

-- in each state that keeps the rule: the first word is 1 exactly where some seat has the turn, and no two seats have it
abbrev pub OneHolder : {W E : Type 0} → Ghosts W E → Type 0
OneHolder {W} {E} S = (opening : W) (s : State (Option W) (View W E)) → Kept S opening s
    → ((slice_index s.words 0 ≡ 1) ↔ IsHeld s.views)
    × ((i j : ℕ) (u v : View W E) → get_elem? s.views i ≡ some u → get_elem? s.views j ≡ some v → u.turn.has ≡ true → v.turn.has ≡ true → i ≡ j)
