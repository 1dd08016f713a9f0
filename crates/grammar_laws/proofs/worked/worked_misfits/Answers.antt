use Rattle.std.proofs.Common.{◌≡◌, ℕ, List, refl, ap, arith}
use Rattle.std.specs.Prelude.{slice_index_or}
use Rattle.schema_spec.specs.declared.token.TokenKind.TheVariants.{Sign}
use Rattle.schema_spec.specs.declared.token.Token.{Token}
use Rattle.schema_spec.specs.Tokens.{is_white, is_word_byte, is_quote, begins_number}
use Rattle.grammar_laws.proofs.worked.worked_misfits.Goals as goal

pub returns-clause-alike : goal.returns-clause-alike
unfolding is_white is_word_byte is_quote begins_number
returns-clause-alike c = record { tokens = refl; other_tokens = refl; bytes = refl }

pub returns-clause-stops : goal.returns-clause-stops
unfolding is_white is_word_byte is_quote begins_number
returns-clause-stops c = refl

pub returns-clause-other : goal.returns-clause-other
unfolding is_white is_word_byte is_quote begins_number
returns-clause-other c = refl

pub returns-clause-blob : goal.returns-clause-blob
unfolding is_white is_word_byte is_quote begins_number
returns-clause-blob c = record { tokens = refl; other_tokens = refl; bytes = refl }

last_start : List Token → ℕ
last_start tokens = (slice_index_or tokens 7 (record { kind = Sign; start = 0; end = 0 })).start

pub returns-clause-apart : goal.returns-clause-apart
unfolding is_white is_word_byte is_quote begins_number last_start
returns-clause-apart c same = let starts : ◌≡◌ {A = ℕ} 26 27 = ap last_start same in absurd (omega (arith, starts))
