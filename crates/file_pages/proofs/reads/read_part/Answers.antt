use Rattle.std.proofs.Common.{rules, ◌≡◌, ◌≤◌, ℕ, length, drop, replicate, ap, ◌∙◌, subst}
use Rattle.std.proofs.lemmas.Option.{IfSome_then}
use Rattle.byte_fields.specs.Bytes.{part_of}
use Rattle.file_spec.specs.Files.{content}
use Rattle.file_pages.proofs.FileReads.{read-resized}
use Rattle.file_pages.proofs.reads.read_part.Goals as goal

pub returns-clause-files : goal.returns-clause-files
returns-clause-files g c =
    let size = length c.args.into.now in
    let shown = g.D.Disk.shown c.args.disk.now in
    let read = c.read_at.new.into in
    let n = c.in_ok-read_at.field-0 in
    let whole : length c.fill.new.self ≡ size = c.fill.auto.self in
    let zeros : c.fill.new.self ≡ replicate size 0 = c.fill.ensures.after (λ y e. e) in
    let long : length read ≡ size = c.read_at.auto.into ∙ whole in
    let bound : n ≤ size = subst (λ (k : ℕ). n ≤ k) whole c.in_ok-read_at.ensures.bound in
    let rest : drop n read ≡ drop n (replicate size 0) = c.in_ok-read_at.ensures.rest ∙ ap (drop n) zeros in
    record {
      same = c.in_ok-read_at.ensures.files.same;
      answer = IfSome_then shown c.in_ok-read_at.ensures.files.answer (λ f copied.
          read-resized (content f c.args.file) read c.args.at n size long bound (copied ∙ ap (part_of (content f c.args.file) c.args.at) whole) rest);
      moments = search rules;
      test = search rules;
    }
