use Rattle.std.proofs.Common.{IsTrue}
use Rattle.file_spec.specs.Records.{Every}
use Rattle.file_spec.specs.TrailsLaws.{Passes-then, images-since, FailsStill-passes}
use Rattle.file_spec.proofs.crash_laws.trails_go_on.Goals as goal

pub returns-clause-joined : goal.returns-clause-joined
returns-clause-joined c test = Passes-then (Every (λ f. IsTrue (test f)))

pub returns-clause-since : goal.returns-clause-since
returns-clause-since c test = images-since (λ f. IsTrue (test f))

pub returns-clause-failed : goal.returns-clause-failed
returns-clause-failed c test file call a b here fails = FailsStill-passes file call (Every (λ f. IsTrue (test f))) a b here fails
