use Rattle.std.proofs.Common.{ap, ◌∙◌}
use Rattle.common_spec.specs.ToldLaws.{Leads-then}
use Rattle.file_spec.proofs.steps_join.Goals as goal

pub returns : goal.returns
returns t h k a b c p r = Leads-then p r (λ f g i first second. second ∙ ap k first)
