use Rattle.std.proofs.Common.{◌≡◌, ◌∙◌, IfSome, Some, rules}
use Rattle.std.proofs.lemmas.Option.{IfSome_then}
use Rattle.common_spec.specs.Reading.{Reads, OrNone}
use Rattle.common_spec.specs.ToldLaws.{told-both}
use Rattle.file_spec.specs.declared.FileName.TheVariants.{Target}
use Rattle.file_spec.specs.Files.{Files, content}
use Rattle.small_spec.specs.SmallFile.{IsSmallTarget}
use Rattle.rbu_run.proofs.Inspections.{IsAlone, files-needed, target-needed, rbu-needed, small-found}
use Rattle.rbu_run.proofs.inspect.inspect.Goals as goal

pub returns-then-branch-clause-files : goal.returns-then-branch-clause-files
returns-then-branch-clause-files g c = record {
  same = c.has_other_file.ensures.files.same;
  answer = IfSome_then (g.D.Disk.shown c.args.disk.now) (rw c.if-branch.true at c.in_ok-has_other_file.ensures.files.answer) files-needed;
  moments = c.has_other_file.ensures.files.moments;
  test = c.has_other_file.ensures.files.test;
}

pub returns-in_default-clause-files : goal.returns-in_default-clause-files
returns-in_default-clause-files g c =
    let start = g.D.Disk.shown c.args.disk.now in
    let alone : IfSome start IsAlone = rw c.if-branch.false at c.in_ok-has_other_file.ensures.files.answer in
    record {
      same = c.target_rows.ensures.files.same ∙ c.has_other_file.ensures.files.same;
      answer = told-both start c.has_other_file.ensures.files.same alone (rw c.in_default.is at c.in_ok-target.ensures.files.answer) (λ f h none. target-needed f h none.0);
      moments = c.target_rows.ensures.files.moments ∙ c.has_other_file.ensures.files.moments;
      test = c.target_rows.ensures.files.test ∙ c.has_other_file.ensures.files.test;
    }

pub returns-in_default-2-clause-files : goal.returns-in_default-2-clause-files
returns-in_default-2-clause-files g c =
    let start = g.D.Disk.shown c.args.disk.now in
    let alone : IfSome start IsAlone = rw c.if-branch.false at c.in_ok-has_other_file.ensures.files.answer in
    let Read : Files → Type 0 = λ f. Reads (OrNone (IsSmallTarget (content f Target))) (Some c.in-Some.old.items) × (c.in-Some.target.items ≡ content f Target) in
    let read : IfSome start (λ f. IsAlone f × Read f) =
    told-both start c.has_other_file.ensures.files.same alone (rw c.in-Some.is at c.in_ok-target.ensures.files.answer) (λ f h r. (h, r)) in
    let same : g.D.Disk.shown c.target_rows.new.disk ≡ start = c.target_rows.ensures.files.same ∙ c.has_other_file.ensures.files.same in
    record {
      same = c.prepared_rows.ensures.files.same ∙ same;
      answer = told-both start same read (rw c.in_default-2.is at c.in_ok-prepared.ensures.files.answer) (λ f both none. rbu-needed f c.in-Some.old.items both.0 both.1.0 none);
      moments = c.prepared_rows.ensures.files.moments ∙ c.target_rows.ensures.files.moments ∙ c.has_other_file.ensures.files.moments;
      test = c.prepared_rows.ensures.files.test ∙ c.target_rows.ensures.files.test ∙ c.has_other_file.ensures.files.test;
    }

pub prepared_rows-requires : goal.prepared_rows-requires
prepared_rows-requires g c = record {
  allowed = c.target_rows.ensures.calls.allows (c.has_other_file.ensures.calls.allows c.requires.allowed);
}

pub returns-clause-calls : goal.returns-clause-calls
returns-clause-calls g c = record {
  later = search rules;
  still = search rules;
  cause = search rules;
  allows = λ all. c.prepared_rows.ensures.calls.allows (c.target_rows.ensures.calls.allows (c.has_other_file.ensures.calls.allows all));
}

pub returns-clause-files : goal.returns-clause-files
returns-clause-files g c =
    let start = g.D.Disk.shown c.args.disk.now in
    let alone : IfSome start IsAlone = rw c.if-branch.false at c.in_ok-has_other_file.ensures.files.answer in
    let Read : Files → Type 0 = λ f. Reads (OrNone (IsSmallTarget (content f Target))) (Some c.in-Some.old.items) × (c.in-Some.target.items ≡ content f Target) in
    let read : IfSome start (λ f. IsAlone f × Read f) =
    told-both start c.has_other_file.ensures.files.same alone (rw c.in-Some.is at c.in_ok-target.ensures.files.answer) (λ f h r. (h, r)) in
    let same : g.D.Disk.shown c.target_rows.new.disk ≡ start = c.target_rows.ensures.files.same ∙ c.has_other_file.ensures.files.same in
    record {
      same = c.prepared_rows.ensures.files.same ∙ same;
      answer = told-both start same read (rw c.in-Some-2.is at c.in_ok-prepared.ensures.files.answer)
          (λ f both rows. small-found f c.in-Some.target.items c.in-Some.old.items c.in-Some-2.prepared.items both.0 both.1 rows);
      moments = c.prepared_rows.ensures.files.moments ∙ c.target_rows.ensures.files.moments ∙ c.has_other_file.ensures.files.moments;
      test = c.prepared_rows.ensures.files.test ∙ c.target_rows.ensures.files.test ∙ c.has_other_file.ensures.files.test;
    }
