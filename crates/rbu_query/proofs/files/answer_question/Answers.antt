use Rattle.std.proofs.Common.{◌≡◌, ◌∙◌, ◌↔◌, false, IfSome, IsTrue, IsSome, length, rules, subst, sym, take}
use Rattle.common_spec.specs.ToldLaws.{told-both}
use Rattle.file_spec.specs.declared.FileName.TheVariants.{Target, Wal}
use Rattle.file_spec.specs.Files.{content}
use Rattle.db_header.specs.Reading.{IsHeaderOf}
use Rattle.rbu_disk.specs.Uses.{AllowsEvery}
use Rattle.dump_spec.specs.FileAnswers.{HasJournal}
use Rattle.check_spec.specs.Questions.{IsPagesAnswerTo}
use Rattle.rbu_query.specs.Questions.{asked}
use Rattle.rbu_query.proofs.Answering.{answer-of_header, answer-of_pages}
use Rattle.rbu_query.proofs.files.answer_question.Goals as goal

pub answer_target-requires-clause-allowed : goal.answer_target-requires-clause-allowed
answer_target-requires-clause-allowed g c = c.target_header.ensures.calls.allows (c.exists.ensures.test.every (c.has_journal.ensures.calls.allows c.requires.allowed))

pub answer_target-requires-clause-header : goal.answer_target-requires-clause-header
answer_target-requires-clause-header g c = rw c.in-Ok.is at c.in_ok-header.ensures.read

pub returns-in-Ok-answer_target-clause-files : goal.returns-in-Ok-answer_target-clause-files
returns-in-Ok-answer_target-clause-files g c =
    let start = g.D.Disk.shown c.args.disk.now in
    let no_journal : IfSome start (λ f. IsTrue false ↔ HasJournal f) = rw c.if-branch.false at c.in_ok-has_journal.ensures.files.answer in
    let no_log : IfSome start (λ f. (IsTrue false ↔ HasJournal f) × (IsTrue false ↔ IsSome (f Wal))) =
    told-both start c.has_journal.ensures.files.same no_journal (rw c.if-branch-2.false at c.in_ok-exists.ensures.files.answer) (λ f j l. (j, l)) in
    let same : g.D.Disk.shown c.exists.new.self ≡ start = c.exists.ensures.files.same ∙ c.has_journal.ensures.files.same in
    let read : IfSome start (λ f. ((IsTrue false ↔ HasJournal f) × (IsTrue false ↔ IsSome (f Wal))) × IsHeaderOf (take 100 (content f Target)) (length (content f Target)) c.in-Ok.header) =
    told-both start same no_log (rw c.in-Ok.is at c.in_ok-header.ensures.files.answer) (λ f n h. (n, h)) in
    let kept : g.D.Disk.shown c.target_header.new.disk ≡ start = c.target_header.ensures.files.same ∙ same in
    record {
      same = c.answer_target.ensures.same ∙ kept;
      answer = told-both start kept read c.in-Ok-answer_target.ensures.answer (λ f known of_pages. answer-of_pages (IsPagesAnswerTo (asked c.args.question)) f c.in-Ok.header c.in-Ok-answer_target.answer known.0.0 known.0.1 known.1 of_pages);
      moments = c.answer_target.ensures.moments ∙ c.target_header.ensures.files.moments ∙ c.exists.ensures.moments ∙ c.has_journal.ensures.files.moments;
      test = search rules;
    }

pub returns-in-Ok-answer_target-clause-calls : goal.returns-in-Ok-answer_target-clause-calls
returns-in-Ok-answer_target-clause-calls g c = record {
  later = search rules;
  still = search rules;
  cause = tt;
  allows = λ all. subst AllowsEvery (sym c.answer_target.ensures.test) (c.target_header.ensures.calls.allows (c.exists.ensures.test.every (c.has_journal.ensures.calls.allows all)));
}

pub returns-in-Err-answer_target-clause-files : goal.returns-in-Err-answer_target-clause-files
returns-in-Err-answer_target-clause-files g c = record {
  same = c.answer_target.ensures.same ∙ c.target_header.ensures.files.same ∙ c.exists.ensures.files.same ∙ c.has_journal.ensures.files.same;
  answer = tt;
  moments = c.answer_target.ensures.moments ∙ c.target_header.ensures.files.moments ∙ c.exists.ensures.moments ∙ c.has_journal.ensures.files.moments;
  test = search rules;
}

pub returns-in-Err-answer_target-clause-calls : goal.returns-in-Err-answer_target-clause-calls
returns-in-Err-answer_target-clause-calls g c = record {
  later = search rules;
  still = tt;
  cause = search rules;
  allows = λ all. subst AllowsEvery (sym c.answer_target.ensures.test) (c.target_header.ensures.calls.allows (c.exists.ensures.test.every (c.has_journal.ensures.calls.allows all)));
}

pub returns-in-Err-clause-files : goal.returns-in-Err-clause-files
returns-in-Err-clause-files g c =
    let start = g.D.Disk.shown c.args.disk.now in
    let no_journal : IfSome start (λ f. IsTrue false ↔ HasJournal f) = rw c.if-branch.false at c.in_ok-has_journal.ensures.files.answer in
    let no_log : IfSome start (λ f. (IsTrue false ↔ HasJournal f) × (IsTrue false ↔ IsSome (f Wal))) =
    told-both start c.has_journal.ensures.files.same no_journal (rw c.if-branch-2.false at c.in_ok-exists.ensures.files.answer) (λ f j l. (j, l)) in
    let same : g.D.Disk.shown c.exists.new.self ≡ start = c.exists.ensures.files.same ∙ c.has_journal.ensures.files.same in
    record {
      same = c.target_header.ensures.files.same ∙ same;
      answer = rw c.refusal_of.ensures (told-both start same no_log (rw c.in-Err.is at c.in_ok-header.ensures.files.answer) (λ f none is. answer-of_header (IsPagesAnswerTo (asked c.args.question)) f c.in-Err.fault none.0 none.1 is));
      moments = c.target_header.ensures.files.moments ∙ c.exists.ensures.moments ∙ c.has_journal.ensures.files.moments;
      test = search rules;
    }
