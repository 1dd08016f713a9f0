use Rattle.check_spec.proofs.laws.questions_are_dumps_and_checks.Goals as goal

pub returns-clause-dump : goal.returns-clause-dump
returns-clause-dump c = λ name files answer. (λ is. is, λ is. is)

pub returns-clause-check : goal.returns-clause-check
returns-clause-check c = λ files answer. (λ is. is, λ is. is)
