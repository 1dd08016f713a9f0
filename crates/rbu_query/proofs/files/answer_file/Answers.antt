use Rattle.std.proofs.Common.{Option, subst, sym}
use Rattle.std.proofs.lemmas.Option.{IfSome_then}
use Rattle.common_spec.specs.ToldLaws.{part-IfSome}
use Rattle.std.specs.Option.{option_copied}
use Rattle.file_pages.specs.Overlay.{count_over, pages_over}
use Rattle.rbu_disk.specs.declared.disk.DiskFault.{DiskFault}
use Rattle.rbu_disk.specs.Disk.{IsCause}
use Rattle.dump_spec.specs.FileAnswers.{sizes_by}
use Rattle.check_spec.specs.Questions.{IsPagesAnswerTo}
use Rattle.rbu_query.specs.Questions.{asked}
use Rattle.rbu_query.proofs.Loans.{loan-name, loan-shown, loan-test, loan-trail, answer-by_header, cause-of_store, header-few}
use Rattle.rbu_query.proofs.files.answer_file.Goals as goal

pub answer_pages-requires-clause-few : goal.answer_pages-requires-clause-few
answer_pages-requires-clause-few g c =
    let pages = c.args.pages.now in
    header-few (option_copied pages.log) pages.header c.requires.log c.requires.header

pub returns-in-Ok-clause-lent : goal.returns-in-Ok-clause-lent
returns-in-Ok-clause-lent g c = loan-name g.D.Disk g.met.D.Disk.tied c.args.pages.now.disk.now c.answer_pages.new.pages.disk.now c.answer_pages.new.pages.disk.ghost_name c.args.pages.now.disk.ghost_name c.in-Ok.ensures.owes.stays.fixed

pub returns-in-Ok-clause-same : goal.returns-in-Ok-clause-same
returns-in-Ok-clause-same g c = loan-shown g.D.Disk g.met.D.Disk.tied c.args.pages.now.disk.now c.answer_pages.new.pages.disk.now c.answer_pages.new.pages.disk.ghost_name c.args.pages.now.disk.ghost_name c.in-Ok.ensures.owes.stays.fixed

pub returns-in-Ok-clause-moments : goal.returns-in-Ok-clause-moments
returns-in-Ok-clause-moments g c = loan-trail g.D.Disk g.met.D.Disk.tied c.args.pages.now.disk.now c.answer_pages.new.pages.disk.now c.answer_pages.new.pages.disk.ghost_name c.args.pages.now.disk.ghost_name c.in-Ok.ensures.owes.stays.fixed

pub returns-in-Ok-clause-test : goal.returns-in-Ok-clause-test
returns-in-Ok-clause-test g c = loan-test g.D.Disk g.met.D.Disk.tied c.args.pages.now.disk.now c.answer_pages.new.pages.disk.now c.answer_pages.new.pages.disk.ghost_name c.args.pages.now.disk.ghost_name c.in-Ok.ensures.owes.stays.fixed

pub returns-in-Err-clause-lent : goal.returns-in-Err-clause-lent
returns-in-Err-clause-lent g c = loan-name g.D.Disk g.met.D.Disk.tied c.args.pages.now.disk.now c.answer_pages.new.pages.disk.now c.answer_pages.new.pages.disk.ghost_name c.args.pages.now.disk.ghost_name c.in-Err.ensures.owes.stays.fixed

pub returns-in-Err-clause-same : goal.returns-in-Err-clause-same
returns-in-Err-clause-same g c = loan-shown g.D.Disk g.met.D.Disk.tied c.args.pages.now.disk.now c.answer_pages.new.pages.disk.now c.answer_pages.new.pages.disk.ghost_name c.args.pages.now.disk.ghost_name c.in-Err.ensures.owes.stays.fixed

pub returns-in-Err-clause-moments : goal.returns-in-Err-clause-moments
returns-in-Err-clause-moments g c = loan-trail g.D.Disk g.met.D.Disk.tied c.args.pages.now.disk.now c.answer_pages.new.pages.disk.now c.answer_pages.new.pages.disk.ghost_name c.args.pages.now.disk.ghost_name c.in-Err.ensures.owes.stays.fixed

pub returns-in-Err-clause-test : goal.returns-in-Err-clause-test
returns-in-Err-clause-test g c = loan-test g.D.Disk g.met.D.Disk.tied c.args.pages.now.disk.now c.answer_pages.new.pages.disk.now c.answer_pages.new.pages.disk.ghost_name c.args.pages.now.disk.ghost_name c.in-Err.ensures.owes.stays.fixed

pub returns-in-Ok-clause-answer : goal.returns-in-Ok-clause-answer
returns-in-Ok-clause-answer g c =
    let pages = c.args.pages.now in
    IfSome_then (g.D.Disk.shown pages.disk.now)
    (part-IfSome (pages_over pages.header.page_size (option_copied pages.log) pages.file) (λ m. IsPagesAnswerTo (asked c.args.question) (sizes_by pages.header) (record { count = count_over (option_copied pages.log) pages.header; pages = m }) c.in-Ok.answer)
    (g.D.Disk.shown pages.disk.now) c.in-Ok.ensures.pages.answer)
    (λ f of_pages. answer-by_header (IsPagesAnswerTo (asked c.args.question)) (option_copied pages.log) pages.file pages.header f c.in-Ok.answer c.requires.log c.requires.file of_pages)

pub returns-in-Ok-clause-faults : goal.returns-in-Ok-clause-faults
returns-in-Ok-clause-faults g c = record { later = c.in-Ok.ensures.owes.faults.later; still = c.in-Ok.ensures.owes.faults.still; cause = tt }

pub returns-in-Err-clause-faults : goal.returns-in-Err-clause-faults
returns-in-Err-clause-faults g c = record {
  later = c.in-Err.ensures.owes.faults.later;
  still = tt;
  cause = subst (λ (fault : Option DiskFault). IsCause fault (g.D.Disk.failures c.args.pages.now.disk.now) (g.D.Disk.failures c.answer_pages.new.pages.disk.now)) (sym c.halt_of.ensures)
      (cause-of_store _ (g.D.Disk.failures c.args.pages.now.disk.now) (g.D.Disk.failures c.answer_pages.new.pages.disk.now) c.in-Err.ensures.owes.faults.cause);
}
