use Rattle.update_spec.specs.CrashesLaws.{ImagesKeepView-rest, ImagesKeepView-crash, ImagesKeepView-stable}
use Rattle.update_spec.proofs.laws.images_keep_view.Goals as goal

pub returns-clause-rest : goal.returns-clause-rest
returns-clause-rest c = ImagesKeepView-rest

pub returns-clause-crash : goal.returns-clause-crash
returns-clause-crash c = ImagesKeepView-crash

pub returns-clause-stable : goal.returns-clause-stable
returns-clause-stable c = ImagesKeepView-stable
