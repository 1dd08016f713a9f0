use Rattle.grammar_laws.specs.LexemesLaws.{goes-on}
use Rattle.grammar_laws.proofs.laws.texts_go_on_behind_their_tokens.Goals as goal

pub returns : goal.returns
returns c = goes-on
