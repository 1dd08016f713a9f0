-- Batches in groups, one for each target.
use Rattle.std.specs.Prelude.{Bool, true, if◌then◌else◌, List, [], ◌∷◌, ◌++◌}
use Rattle.rbu_rows.specs.declared.prepared.Batch.{Batch}
use Rattle.schema_spec.specs.Words.{same_name}

-- a batch is for the target of a group, which any batch begins
abbrev pub belongs : List Batch → Batch → Bool
belongs [] batch = true
belongs (first ∷ group) batch = same_name batch.table first.table

-- batches one by one, each put behind the group or behind the others
abbrev pub split_from : List Batch → List Batch → List Batch → List Batch × List Batch
split_from group others [] = (group, others)
split_from group others (batch ∷ batches) = if belongs group batch then split_from (group ++ batch ∷ []) others batches else split_from group (others ++ batch ∷ []) batches
