-- How many pages an update may come to need (this project's rule): where these are few enough, no step finds the database full.
use Rattle.std.specs.Prelude.{◌≡◌, ℕ, ◌+◌, ◌^◌, ◌≤◌, ◌⊎◌, List, [], ◌∷◌, length, take, drop, Option, Some, None, sum_by}
use Rattle.page_spec.specs.Chains.{pages_for}
use Rattle.rbu_rows.specs.declared.prepared.Batch.{Batch}
use Rattle.tree_spec.specs.Trees.{Member}
use Rattle.database_spec.specs.declared.catalog.Catalog.{Catalog}
use Rattle.database_spec.specs.Databases.{Database}
use Rattle.prepared_spec.specs.Outcomes.{IsMid}
use Rattle.prepared_spec.specs.StepRecords.{Step, AreSteps}

-- the overflow pages that what a step puts may have, as if all its bytes stood there
abbrev pub put_pages : ℕ → Option Member → ℕ
put_pages usable None = 0
put_pages usable (Some member) = pages_for usable (length member.payload)

-- the pages that a step may take, of which 54 are for its tree, and the others for an overflow chain
abbrev pub step_pages : ℕ → Step → ℕ
step_pages usable step = 54 + put_pages usable step.put

-- the pages of a database of so many, and those that each step may take
abbrev pub needed_pages : ℕ → ℕ → List Step → ℕ
needed_pages usable count steps = count + sum_by (step_pages usable) steps

-- the pages that stand for a member: a tree has no more than two for each, and one, but for overflow pages
abbrev pub member_pages : ℕ → Member → ℕ
member_pages usable member = 2 + pages_for usable (length member.payload)

-- the pages that a database with these lists may have, and those that one step more may take
abbrev pub filled_pages : ℕ → List (ℕ × List Member) → ℕ
filled_pages usable lists = 55 + length lists + sum_by (λ list. sum_by (member_pages usable) list.1) lists

-- what the first of some steps puts
abbrev pub next_put : List Step → Option Member
next_put [] = None
next_put (step ∷ steps) = step.put

abbrev pub most_pages : ℕ
most_pages = 2 ^ 24

-- behind each number of steps the database and its next step fill no more pages than a database may have
abbrev pub NeverFills : ℕ → Catalog → Database → List (List Batch) → List Step → Type 0
NeverFills usable catalog old groups steps =
    (n : ℕ) (mid : Database) → n ≤ length steps → IsMid catalog old groups n mid → filled_pages usable mid.lists + put_pages usable (next_put (drop n steps)) ≤ most_pages

-- An update has room, whatever pages its steps take: all that they may take is no more than a database may have, or the database is never that full.
abbrev pub HasRoom : ℕ → ℕ → Catalog → Database → List (List Batch) → Type 0
HasRoom usable count catalog old groups =
    (steps : List Step) × AreSteps catalog old groups steps × ((needed_pages usable count steps ≤ most_pages) ⊎ NeverFills usable catalog old groups steps)
