use Rattle.std.proofs.Common.{◌≡◌, ℕ, List, ap, is_some, subst, ◌∙◌}
use Rattle.database_spec.specs.RightRows.{is_automatic}
use Rattle.schema_read.specs.Found.{any_found}
use Rattle.schema_read.specs.Members.{is_automatic_named}
use Rattle.schema_read.specs.declared.found.Found.{Found}
use Rattle.schema_read.proofs.Noting.{automatic-look}
use Rattle.schema_read.proofs.members.Members.has_automatic.Goals as goal

pub returns : goal.returns
returns c =
    let found = c.self.inside.found.items in
    let has : c.is_some.result ≡ any_found (is_automatic_named c.in_ok-names.names) found =
    c.is_some.ensures ∙ ap is_some c.first_place.ensures ∙ automatic-look c.self.inside.lookups found c.self.invariant c.in_ok-names.names in
    subst (λ (l : List Found). c.is_some.result ≡ any_found (is_automatic c.args.table.now c.args.number) l) c.self.view_is
    (subst (λ (names : List ℕ × List ℕ). c.is_some.result ≡ any_found (is_automatic_named names) found) c.in_ok-names.ensures has)
