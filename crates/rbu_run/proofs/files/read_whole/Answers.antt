use Rattle.std.proofs.Common.{refl}
use Rattle.std.proofs.lemmas.Option.{IfSome_then}
use Rattle.file_spec.specs.Files.{content}
use Rattle.rbu_run.proofs.FileReads.{missing-zeros, read-resized}
use Rattle.rbu_run.proofs.files.read_whole.Goals as goal

pub returns-clause-files : goal.returns-clause-files
returns-clause-files g c = record {
  same = c.read_at.ensures.files.same;
  answer = IfSome_then (g.D.Disk.shown c.args.disk.now) c.in_ok-n.ensures.files.answer (λ f copied.
      read-resized (content f c.args.name) c.args.into.now c.read_at.new.into c.in_ok-n.n c.requires.zeros c.read_at.auto.into c.in_ok-n.ensures.bound copied c.in_ok-n.ensures.rest);
  moments = c.read_at.ensures.moments;
  test = c.read_at.ensures.test.same refl refl;
}

pub returns-clause-missing : goal.returns-clause-missing
returns-clause-missing g c = missing-zeros c.args.into.now c.read_at.new.into c.in_ok-n.n c.requires.zeros c.in_ok-n.ensures.rest
