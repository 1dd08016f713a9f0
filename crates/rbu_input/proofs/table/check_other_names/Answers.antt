use Rattle.std.proofs.Common.{ℕ, List, [], ◌∷◌, length}
use Rattle.refusal.specs.declared.Measure.TheVariants.{Name}
use Rattle.prepared_spec.specs.DataTables.{over, index_names}
use Rattle.rbu_input.proofs.Telling.{tells-alone, tells-front_of, tells-behind_of}
use Rattle.rbu_input.proofs.table.check_other_names.Goals as goal

pub returns-in-Err : goal.returns-in-Err
returns-in-Err c = tells-front_of (λ (name : List ℕ). over Name 255 (length name)) (index_names c.args.indexes.now) (c.args.source.now ∷ []) c.in-Err.fault c.in-Err.ensures

pub returns : goal.returns
returns c =
    tells-behind_of (λ (name : List ℕ). over Name 255 (length name)) (index_names c.args.indexes.now) (c.args.source.now ∷ []) c.check_limit.result c.in-Ok.ensures
    (tells-alone (over Name 255 (length c.args.source.now)) c.check_limit.result c.check_limit.ensures)
