-- How many cells a walk over a table comes to, whatever the store holds.
use Rattle.std.specs.Prelude.{◌≡◌, ℕ, suc, ◌*◌, ◌/◌, ◌≤◌, length, Result, IfOk}
use Rattle.tree_spec.specs.declared.TreeKind.TheVariants.{Table}
use Rattle.tree_spec.specs.declared.fault.TreeFault.{TreeFault}
use Rattle.tree_spec.specs.Standing.{Sizes, Paged}
use Rattle.tree_walk.specs.declared.path.Cursor.{Cursor}
use Rattle.tree_walk.specs.Courses.{Course, StandsOn}
use Rattle.tree_walk.specs.Rising.{kind_of}

-- the most cells that so many pages hold: each takes two bytes of its page's array of places, and four of the page's end at least
abbrev pub most_cells : Sizes → ℕ → ℕ
most_cells sizes count = count * (sizes.usable / 6)

-- It cannot be that there is none. Which pages are accepted is decided by no definition, so of some stores no more can be said; what is then proved of a number holds all the same, since numbers are compared.
abbrev pub Surely : Type 0 → Type 0
Surely A = (A → ⊥) → ⊥

-- the cursor is on a walk of which no more than so many cells are left
abbrev pub HasAtMost : Sizes → Paged → ℕ → Cursor → Type 0
HasAtMost sizes base most cursor = Surely ((course : Course) × StandsOn sizes base course cursor × (length course.spots ≤ most))

-- a cursor that was stood at the first cell of a walk over a table has no more cells before it than the pages hold
abbrev pub StartsShort : {F : Type 0} → Sizes → Paged → Result Cursor (TreeFault F) → Type 0
StartsShort sizes base result = IfOk result (λ cursor. kind_of cursor ≡ Table → HasAtMost sizes base (most_cells sizes base.count) cursor)

-- a cursor that moved on has one fewer
abbrev pub OneFewer : Sizes → Paged → Cursor → Cursor → Type 0
OneFewer sizes base old new = (n : ℕ) → HasAtMost sizes base (suc n) old → HasAtMost sizes base n new
