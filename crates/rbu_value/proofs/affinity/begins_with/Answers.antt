use Rattle.rbu_value.proofs.Words.{BeginsWith-from_front, BeginsWith-front}
use Rattle.rbu_value.proofs.affinity.begins_with.Goals as goal

pub returns-then-word-text : goal.returns-then-word-text
returns-then-word-text c =
    let t = c.args.text.now in
    let w = c.args.word.now in
    (λ e. BeginsWith-from_front t w _ (c.eq_ignore_ascii_case.ensures.test.0 e), λ b. c.eq_ignore_ascii_case.ensures.test.1 (BeginsWith-front t w b))
