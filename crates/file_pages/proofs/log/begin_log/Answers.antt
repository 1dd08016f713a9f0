use Rattle.std.proofs.Common.{rules, take, sym, ap, ◌∙◌}
use Rattle.std.proofs.lemmas.Option.{IfSome_then}
use Rattle.file_spec.specs.Files.{content}
use Rattle.file_pages.specs.LogFile.{front_of}
use Rattle.file_pages.proofs.LogCalls.{begun-in, front-front}
use Rattle.file_pages.proofs.log.begin_log.Goals as goal

pub returns-clause-files : goal.returns-clause-files
returns-clause-files g c = record {
  same = search rules;
  answer = IfSome_then (g.D.Disk.shown c.args.disk.now) c.in_ok-n.ensures.files.answer (λ f copied.
      let len = c.args.len in
      let bytes = content f c.args.file in
      let same = front-front 32 len bytes ∙ ap (take len) (sym copied) ∙ sym c.front.ensures in
      begun-in c.begin.result (front_of c.args.file len f) _ c.args.needed same c.begin.ensures.begun c.begin.ensures.none);
  moments = search rules;
  test = search rules;
}
