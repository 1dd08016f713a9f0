use Rattle.std.proofs.Common.{rules, ℕ, take, drop, sym, ap, ◌∙◌}
use Rattle.std.proofs.lemmas.Option.{IfSome_then}
use Rattle.file_spec.specs.Files.{content}
use Rattle.wal_codec.specs.FramesRead.{frame_size}
use Rattle.file_pages.specs.LogFile.{front_of}
use Rattle.file_pages.proofs.LogCalls.{front-within}
use Rattle.file_pages.proofs.log.next_of.Goals as goal

pub returns-clause-files : goal.returns-clause-files
returns-clause-files g c = record {
  same = search rules;
  answer = IfSome_then (g.D.Disk.shown c.args.disk.now) c.in_ok-n.ensures.files.answer (λ f copied len needed within reading.
      let bytes = content f c.args.file in
      let at = c.args.at in
      let size = frame_size c.args.reader.now in
      let front = front_of c.args.file len f in
      let same = front-within at size len bytes within ∙ ap (λ (k : ℕ). take k (drop at bytes)) (sym c.requires.whole) ∙ sym copied in
      c.in_ok-valid.ensures.frame front (drop at front) needed same reading);
  moments = search rules;
  test = search rules;
}
