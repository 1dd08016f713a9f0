-- The steps of the update that was worked out by hand.
use Rattle.std.specs.Prelude.{ℕ, pos, List, [], ◌∷◌, Option, Some, None, codes}
use Rattle.tree_spec.specs.Trees.{Member}
use Rattle.database_spec.specs.LittleTarget.{row_record}
use Rattle.prepared_spec.specs.LittleUpdate.{little_member}
use Rattle.prepared_spec.specs.StepRecords.{Step}

abbrev pub little_step : Option Member → Step
little_step put = record { table = codes "t1"; put = put; fault = None }

-- one row is changed, one deleted, one replaced and one inserted; then entries are removed and added
abbrev pub little_steps : List Step
little_steps =
    little_step (Some (little_member 1 (row_record 19 (codes "one") 11))) ∷ little_step None ∷ little_step (Some (little_member 3 (row_record 21 (codes "drei") 20)))
    ∷ little_step (Some (little_member 4 (row_record 21 (codes "four") 40))) ∷ little_step None ∷ little_step (Some (little_member 1 (3 ∷ 1 ∷ 9 ∷ 11 ∷ []))) ∷ little_step None
    ∷ little_step (Some (little_member 3 (3 ∷ 1 ∷ 1 ∷ 20 ∷ 3 ∷ []))) ∷ little_step None ∷ little_step (Some (little_member 4 (3 ∷ 1 ∷ 1 ∷ 40 ∷ 4 ∷ []))) ∷ []

-- a step that puts a row with this record
abbrev pub step_with : List ℕ → Step
step_with payload = little_step (Some (little_member 4 payload))
