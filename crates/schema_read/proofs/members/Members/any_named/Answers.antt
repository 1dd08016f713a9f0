use Rattle.std.proofs.Common.{◌≡◌, List, ap, subst, take, ◌∙◌}
use Rattle.database_spec.specs.RightRows.{has_name}
use Rattle.schema_read.specs.Firsts.{is_before}
use Rattle.schema_read.specs.Found.{any_found}
use Rattle.schema_read.specs.declared.found.Found.{Found}
use Rattle.schema_read.proofs.Noting.{name-look}
use Rattle.schema_read.proofs.members.Members.any_named.Goals as goal

pub returns : goal.returns
returns c =
    subst (λ (l : List Found). c.is_before.result ≡ any_found (has_name c.args.name.now) (take c.args.at l)) c.self.view_is
    (c.is_before.ensures ∙ ap (is_before c.args.at) c.first_place.ensures ∙ name-look c.self.inside.lookups c.self.inside.found.items c.self.invariant c.args.at c.args.name.now)
