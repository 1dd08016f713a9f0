use Rattle.std.proofs.Common.{◌≡◌, List, ap, subst, take, ◌∙◌}
use Rattle.schema_read.specs.Firsts.{is_before}
use Rattle.schema_read.specs.Found.{any_found, has_root}
use Rattle.schema_read.specs.declared.found.Found.{Found}
use Rattle.schema_read.proofs.Noting.{root-look}
use Rattle.schema_read.proofs.members.Members.any_at.Goals as goal

pub returns : goal.returns
returns c =
    subst (λ (l : List Found). c.is_before.result ≡ any_found (has_root c.args.root) (take c.args.at l)) c.self.view_is
    (c.is_before.ensures ∙ ap (is_before c.args.at) c.first_place.ensures ∙ root-look c.self.inside.lookups c.self.inside.found.items c.self.invariant c.args.at c.args.root)
