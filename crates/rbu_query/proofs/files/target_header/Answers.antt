use Rattle.std.proofs.lemmas.Option.{IfSome_then}
use Rattle.rbu_query.proofs.Answering.{header-of_start, header-read}
use Rattle.rbu_query.proofs.files.target_header.Goals as goal

pub returns-clause-files : goal.returns-clause-files
returns-clause-files g c = record {
  same = c.file_start.ensures.files.same;
  answer = IfSome_then (g.D.Disk.shown c.args.disk.now) c.in_ok-n.ensures.files.answer (λ f start. header-of_start f c.in_ok-n.n c.in_ok-n.len c.file_start.new.into c.read_header.result start c.read_header.ensures.holds);
  moments = c.file_start.ensures.files.moments;
  test = c.file_start.ensures.files.test;
}

pub returns-clause-read : goal.returns-clause-read
returns-clause-read g c = header-read _ _ c.read_header.result c.read_header.ensures.holds
