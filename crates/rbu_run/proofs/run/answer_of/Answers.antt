use Rattle.std.proofs.Common.{◌≡◌, ℕ, Some, true, List, refl, sym, ◌∙◌, subst, inl, inr, map, string_bytes}
use Rattle.update_spec.specs.declared.Command.TheVariants.{Apply, Check, Dump}
use Rattle.update_spec.specs.Answer.{IsPrinted}
use Rattle.update_spec.specs.Words.{AreWords, AsksCheck, AsksDump, AsksQuestion, AsksUpdate, Checks, Dumps}
use Rattle.check_spec.specs.Questions.{IsAnswerTo}
use Rattle.rbu_run.proofs.run.answer_of.Given as given
use Rattle.rbu_run.proofs.run.answer_of.Goals as goal

pub returns-in_default-clause-ends : goal.returns-in_default-clause-ends
returns-in_default-clause-ends g c =
    inr (inr (inr ((λ command are. c.in_default.not-Some command (c.command_of.ensures.only command are)), refl, refl)))

pub returns-then-is_whole_update-clause-ends : goal.returns-then-is_whole_update-clause-ends
returns-then-is_whole_update-clause-ends g c =
    let asks : AsksUpdate (map string_bytes c.args.words.now) = subst (AreWords (map string_bytes c.args.words.now)) (c.is_whole_update.ensures.0 c.if-is_whole_update.true) c.in-Some.ensures.found in
    inl (asks, record { of_update = c.update_answer.ensures.ended; files = c.update_answer.ensures.files; crash = c.update_answer.ensures.crash })

pub returns-then-is_dump-clause-ends : goal.returns-then-is_dump-clause-ends
returns-then-is_dump-clause-ends g c =
    let asks : AsksDump (map string_bytes c.args.words.now) = subst (AreWords (map string_bytes c.args.words.now)) (c.is_dump.ensures.0 c.if-is_dump.true) c.in-Some.ensures.found in
    let printed = subst (λ (name : List ℕ). IsPrinted (IsAnswerTo (Dumps name)) (g.D.Disk.shown c.args.disk.now) c.query_answer.result) (c.name_of.ensures asks) c.query_answer.ensures.prints in
    inr (inl ((Dumps asks.0, asks.1), record { printed = printed; same = c.query_answer.ensures.same; crash = c.query_answer.ensures.crash }))

pub returns-then-is_check-clause-ends : goal.returns-then-is_check-clause-ends
returns-then-is_check-clause-ends g c =
    let asks : AsksCheck (map string_bytes c.args.words.now) = subst (AreWords (map string_bytes c.args.words.now)) (c.is_check.ensures.0 c.if-is_check.true) c.in-Some.ensures.found in
    inr (inl ((Checks, asks), record { printed = c.query_answer-then-is_check.ensures.prints; same = c.query_answer-then-is_check.ensures.same; crash = c.query_answer-then-is_check.ensures.crash }))

-- the words ask for another command
no_update : (g : given.Over) (c : goal.After-not_yet g) → ¬ AsksUpdate (map string_bytes c.args.words.now)
no_update g c asks =
    let read : Some c.in-Some.command ≡ Some (Apply 4294967295) = sym c.in-Some.is ∙ c.command_of.ensures.only (Apply 4294967295) asks in
    let whole : c.in-Some.command ≡ Apply 4294967295 = cc in
    let yes : c.is_whole_update.result ≡ true = c.is_whole_update.ensures.1 whole in
    cc (yes, c.if-is_whole_update.false)

no_question : (g : given.Over) (c : goal.After-not_yet g) → ¬ AsksQuestion (map string_bytes c.args.words.now)
no_question g c (Dumps name, are) =
    let read : Some c.in-Some.command ≡ Some Dump = sym c.in-Some.is ∙ c.command_of.ensures.only Dump (name, are) in
    let dump : c.in-Some.command ≡ Dump = cc in
    let yes : c.is_dump.result ≡ true = c.is_dump.ensures.1 dump in
    cc (yes, c.if-is_dump.false)
no_question g c (Checks, are) =
    let read : Some c.in-Some.command ≡ Some Check = sym c.in-Some.is ∙ c.command_of.ensures.only Check are in
    let check : c.in-Some.command ≡ Check = cc in
    let yes : c.is_check.result ≡ true = c.is_check.ensures.1 check in
    cc (yes, c.if-is_check.false)

pub returns-clause-ends : goal.returns-clause-ends
returns-clause-ends g c =
    rw c.not_yet.ensures (inr (inr (inl ((no_update g c, no_question g c, (c.in-Some.command, c.in-Some.ensures.found)), refl, refl))))
