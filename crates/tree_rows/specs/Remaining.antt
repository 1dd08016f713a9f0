-- What is left of a walk where a cursor stands: the findings of the walk, and the cells to which a cursor comes.
use Rattle.std.specs.Prelude.{◌≡◌, ℕ, ◌⊎◌, List, [], ◌∷◌}
use Rattle.refusal.specs.declared.Rule.{Rule}
use Rattle.refusal.specs.declared.Rule.TheVariants as broken
use Rattle.tree_spec.specs.declared.TreeKind.{TreeKind}
use Rattle.tree_spec.specs.Standing.{Sizes, Paged}
use Rattle.tree_walk.specs.declared.path.Cursor.{Cursor}
use Rattle.tree_walk.specs.Courses.{Spot, Course, ends, stops, StandsOn}
use Rattle.tree_walk.specs.Payloads.{IsBadPayload}
use Rattle.tree_walk.specs.Walks.{IsMember}
use Rattle.database_spec.specs.Walks.{Finding, Finds, Ends, Holds, Breaks, Disorders, Bares}

-- a cell, and then what is behind it
abbrev pub cell_before : Spot → Course → Course
cell_before spot course = record { spots = spot ∷ course.spots; damage = course.damage }

module _ (sizes : Sizes) (base : Paged) (kind : TreeKind) where
  -- the chain of the payload of a cell is broken
  abbrev pub IsTornSpot : Spot → ℕ → Rule → Type 0
  IsTornSpot spot page rule = IsBadPayload base.pages sizes.size sizes.usable base.count spot.page spot.at page rule

  -- A walk with these findings has this course, behind which is a later one: each member is a cell, and so is each broken chain; any other thing that is wrong ends the course.
  abbrev pub Follows : List Finding → Course → Course → Type 0
  Follows [] later course = course ≡ later
  Follows (Finds page ∷ findings) later course = Follows findings later course
  Follows (Ends page depth ∷ findings) later course = Follows findings later course
  Follows (Bares page ∷ findings) later course = Follows findings later course
  Follows (Holds page member ∷ findings) later course = (spot : Spot) × (rest : Course) × IsMember sizes base kind spot member × Follows findings later rest × (course ≡ cell_before spot rest)
  Follows (Breaks page rule ∷ findings) later course =
      (course ≡ stops page rule) ⊎ ((spot : Spot) × (rest : Course) × IsTornSpot spot page rule × Follows findings later rest × (course ≡ cell_before spot rest))
  Follows (Disorders page ∷ findings) later course = course ≡ stops page broken.Cells

  -- these findings are left of the walk where the cursor stands
  pub record Remains (findings : List Finding) (cursor : Cursor) : Type 0 where
    pub course : Course
    pub stands : StandsOn sizes base course cursor
    pub follows : Follows findings ends course
