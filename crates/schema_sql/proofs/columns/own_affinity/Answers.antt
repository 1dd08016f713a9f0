use Rattle.std.proofs.Common.{refl, subst}
use Rattle.rbu_value.specs.Affinity.{HasAffinity}
use Rattle.schema_sql.proofs.columns.own_affinity.Goals as goal

pub returns : goal.returns
returns c = subst (λ t. HasAffinity t c.affinity_of.result) c.declared_type.ensures ((c.affinity_of.ensures c.affinity_of.result).0 refl)
