use Rattle.std.proofs.Common.{rules, IfErr, ◌-◌, ◌∙◌}
use Rattle.std.proofs.lemmas.Option.{IfSome_then}
use Rattle.std.proofs.lemmas.Result.{err_from_is_err_and}
use Rattle.file_spec.specs.declared.FileName.TheVariants.{Oal}
use Rattle.file_spec.specs.Files.{content}
use Rattle.format_spec.specs.Log.{pair_of}
use Rattle.oal_store.specs.Saved.{IsStartFault, saved_by}
use Rattle.oal_store.proofs.Starts.{only-fault, started}
use Rattle.oal_store.proofs.store.OalStore.start.Goals as goal

pub returns-in_err-log-clause-faults : goal.returns-in_err-log-clause-faults
returns-in_err-log-clause-faults g c =
    let answer = c.from_residual.result in
    let fault = err_from_is_err_and answer c.from_residual.ensures.1 in
    let told : IfErr answer (IsStartFault (g.D.Disk.shown c.args.disk.now) (saved_by c.args.header.now c.args.size c.args.sums)) =
    rw (fault.1, fault.2) (c.in_err-log.ensures.faults c.args.header.now.page_size (pair_of c.args.sums)) in
    told

pub returns-in_err-check_log-clause-faults : goal.returns-in_err-check_log-clause-faults
returns-in_err-check_log-clause-faults g c =
    let answer = c.from_residual-in_err-check_log.result in
    let fault = err_from_is_err_and answer c.from_residual-in_err-check_log.ensures.1 in
    let shown = g.D.Disk.shown c.args.disk.now in
    let told : IfErr answer (IsStartFault shown (saved_by c.args.header.now c.args.size c.args.sums)) =
    rw (fault.1, fault.2) (only-fault (saved_by c.args.header.now c.args.size c.args.sums) shown c.in_err-check_log.field-0.0
    (IfSome_then shown c.in_ok-log.ensures.files.answer (λ f has. c.in_err-check_log.ensures.wrong (content f Oal) has.0 has.1))) in
    told

pub returns-clause-files : goal.returns-clause-files
returns-clause-files g c = record {
  same = search rules;
  answer = IfSome_then (g.D.Disk.shown c.args.disk.now) c.in_ok-log.ensures.files.answer (λ f has.
      started c.args.header.now c.args.size c.args.sums c.in_ok-log.log c.in_ok-store.store f c.in_ok-store.ensures c.in_ok-check_log.ensures.right has.0 has.1);
  moments = search rules;
  test = search rules;
}

pub returns-clause-store : goal.returns-clause-store
returns-clause-store g c =
    let opened = c.in_ok-store.ensures in
    let right = c.in_ok-check_log.ensures.right in
    record {
      page_size = opened.page_size ∙ right.page_size;
      usable = opened.usable ∙ (λ i. right.page_size i - c.args.header.now.reserved);
      target_pages = opened.target_pages;
      size = opened.size;
      sums = opened.sums;
      unchanged = opened.unchanged;
    }
