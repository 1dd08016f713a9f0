use Rattle.std.proofs.Common.{◌≡◌, List, subst, ◌∙◌}
use Rattle.std.specs.List.{position}
use Rattle.schema_read.specs.Found.{has_table}
use Rattle.schema_read.specs.declared.found.Found.{Found}
use Rattle.schema_read.proofs.Noting.{table-look}
use Rattle.schema_read.proofs.members.Members.table_place.Goals as goal

pub returns : goal.returns
returns c =
    subst (λ (l : List Found). c.first_place.result ≡ position (has_table c.args.name.now) l) c.self.view_is
    (c.first_place.ensures ∙ table-look c.self.inside.lookups c.self.inside.found.items c.self.invariant c.args.name.now)
