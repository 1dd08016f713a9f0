use Rattle.index_lookup.specs.AlikesLaws.{alike-found, alike-missed}
use Rattle.index_lookup.proofs.laws.answers_speak_of_values.Goals as goal

pub returns-clause-found : goal.returns-clause-found
returns-clause-found c = λ alike index payload entry members of is. alike-found alike index of payload entry is members

pub returns-clause-missed : goal.returns-clause-missed
returns-clause-missed c = λ alike index payload entry members of is. alike-missed alike index of payload entry is members
