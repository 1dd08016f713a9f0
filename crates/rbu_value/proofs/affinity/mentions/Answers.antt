use Rattle.std.proofs.Common.{◌<◌, length, sym, refl, ◌∙◌, subst, arith, below_more}
use Rattle.std.proofs.lemmas.List.{take_rest}
use Rattle.std.proofs.lemmas.Bool.{false≢true}
use Rattle.rbu_value.proofs.Words.{BeginsWith, Mentions-from_place, Mentions-place}
use Rattle.rbu_value.proofs.affinity.mentions.Goals as goal

pub returns-then-begins_with : goal.returns-then-begins_with
returns-then-begins_with c =
    let text = c.args.text.now in
    let word = c.args.word.now in
    let at = c.loop-at.at in
    (λ e. Mentions-from_place text word at (subst (λ rest. BeginsWith rest word) (take_rest text at) (c.begins_with.ensures.0 c.if-begins_with.true)), λ m. refl)

pub returns : goal.returns
returns c =
    let text = c.args.text.now in
    let word = c.args.word.now in
    (λ e. absurd (false≢true e), λ m. let place = Mentions-place text word c.requires m in absurd (c.loop-at.invariant place.0 (let l : place.0 < length text = place.1 in omega arith) place.2))

pub loop-at-preserved : goal.loop-at-preserved
loop-at-preserved c =
    let text = c.args.text.now in
    let word = c.args.word.now in
    let at = c.loop-at.at in
    below_more _ _ c.loop-at.invariant (λ b. false≢true (sym c.if-begins_with.false ∙ c.begins_with.ensures.1 (subst (λ rest. BeginsWith rest word) (sym (take_rest text at)) b)))
