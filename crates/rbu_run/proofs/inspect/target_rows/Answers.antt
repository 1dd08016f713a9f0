use Rattle.std.proofs.Common.{ℕ, List, subst, None, Some}
use Rattle.std.proofs.lemmas.Option.{IfSome_then}
use Rattle.common_spec.specs.Reading.{Reads, OrNone}
use Rattle.small_spec.specs.declared.TargetRow.{TargetRow}
use Rattle.small_spec.specs.SmallFile.{IsSmallTarget}
use Rattle.rbu_run.proofs.FileReads.{none-read}
use Rattle.rbu_run.proofs.inspect.target_rows.Goals as goal

pub returns-in_default-clause-files : goal.returns-in_default-clause-files
returns-in_default-clause-files g c = record {
  same = c.small_bytes.ensures.files.same;
  answer = IfSome_then (g.D.Disk.shown c.args.disk.now) (rw c.in_default.is at c.in_ok-bytes.ensures.files.answer)
      (λ f other. (none-read (λ rows small. other small.file.long), tt));
  moments = c.small_bytes.ensures.files.moments;
  test = c.small_bytes.ensures.files.test;
}

pub returns-in_default-2-clause-files : goal.returns-in_default-2-clause-files
returns-in_default-2-clause-files g c =
    let read : Reads (OrNone (IsSmallTarget c.in-Some.bytes.items)) None = rw c.deref.ensures.value at (rw c.in_default-2.is at c.in_ok-rows.ensures) in
    record {
      same = c.small_bytes.ensures.files.same;
      answer = IfSome_then (g.D.Disk.shown c.args.disk.now) (rw c.in-Some.is at c.in_ok-bytes.ensures.files.answer)
          (λ f are. (subst (λ (b : List ℕ). Reads (OrNone (IsSmallTarget b)) None) are read, tt));
      moments = c.small_bytes.ensures.files.moments;
      test = c.small_bytes.ensures.files.test;
    }

pub returns-clause-files : goal.returns-clause-files
returns-clause-files g c =
    let rows : List TargetRow = c.in-Some-2.rows.items in
    let read : Reads (OrNone (IsSmallTarget c.in-Some.bytes.items)) (Some rows) = rw c.deref.ensures.value at (rw c.in-Some-2.is at c.in_ok-rows.ensures) in
    record {
      same = c.small_bytes.ensures.files.same;
      answer = IfSome_then (g.D.Disk.shown c.args.disk.now) (rw c.in-Some.is at c.in_ok-bytes.ensures.files.answer)
          (λ f are. (subst (λ (b : List ℕ). Reads (OrNone (IsSmallTarget b)) (Some rows)) are read, are));
      moments = c.small_bytes.ensures.files.moments;
      test = c.small_bytes.ensures.files.test;
    }

pub returns-clause-rows : goal.returns-clause-rows
returns-clause-rows g c =
    let read : Reads (OrNone (IsSmallTarget c.in-Some.bytes.items)) (Some c.in-Some-2.rows.items) = rw c.deref.ensures.value at (rw c.in-Some-2.is at c.in_ok-rows.ensures) in
    read.holds
