use Rattle.std.proofs.Common.{rules, ◌≡◌, ◌==◌, ℕ, ◌*◌, if◌then◌else◌, Bool, false, List, take, Option, Some, Bor, sym, ap, ap₂, ◌∙◌, subst, arith}
use Rattle.std.proofs.lemmas.Bool.{ne_eqb}
use Rattle.std.proofs.lemmas.List.{take-take}
use Rattle.std.proofs.lemmas.Option.{IfSome_then}
use Rattle.std.specs.Option.{option_copied}
use Rattle.file_spec.specs.declared.FileName.{FileName}
use Rattle.file_spec.specs.Files.{Files}
use Rattle.wal_codec.specs.declared.log.Log.{Log}
use Rattle.file_pages.specs.Overlay.{IsStart, Start, file_start, pages_over, start_over}
use Rattle.file_pages.proofs.start.file_start.Goals as goal

-- how the overlay by a log with a commit begins
overlay-start : (log : Option (Bor Log)) (kept : Bor Log) (name : FileName) (files : Files) (long : ℕ) (into : List ℕ) → log ≡ Some kept → ¬ (kept.now.committed ≡ 0)
    → long ≡ kept.now.commit_pages * kept.now.page_size → into ≡ take 100 (pages_over kept.now.page_size (Some kept.now) name files 1) → IsStart (start_over (option_copied log) name files) 100 long into
overlay-start log kept name files long into is some long_is into_is =
    let page : List ℕ = pages_over kept.now.page_size (Some kept.now) name files 1 in
    let over : Start = record { first = take 100 page; long = kept.now.commit_pages * kept.now.page_size } in
    let filled : (kept.now.committed == 0) ≡ false = ne_eqb kept.now.committed 0 some in
    let start : start_over (option_copied log) name files ≡ over =
    ap (λ (o : Option (Bor Log)). start_over (option_copied o) name files) is ∙ ap (λ (b : Bool). if b then file_start name files else over) filled in
    subst (λ (s : Start). IsStart s 100 long into) (sym start)
    (record { first = ap (take 100) into_is ∙ take-take 100 100 page (omega arith); length = long_is })

pub returns-in_ok-first_page-in-Some-clause-files : goal.returns-in_ok-first_page-in-Some-clause-files
returns-in_ok-first_page-in-Some-clause-files g c = record {
  same = search rules;
  answer = IfSome_then (g.D.Disk.shown c.args.disk.now) c.in_ok-first_page-in-Some.ensures.files.answer (λ f first.
      overlay-start c.args.log c.in-Some.log c.args.file f _ c.first_page.new.into c.in-Some.is c.if-log-ne0.true
      (ap₂ (λ (x y : ℕ). x * y) c.from.ensures c.from-in-Some.ensures) first);
  moments = search rules;
  test = search rules;
}
