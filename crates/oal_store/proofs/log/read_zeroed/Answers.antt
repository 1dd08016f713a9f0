use Rattle.std.proofs.Common.{◌≡◌, ◌≤◌, ℕ, length, drop, replicate, refl, ap, ◌∙◌, subst}
use Rattle.std.proofs.lemmas.Option.{IfSome_then}
use Rattle.byte_fields.specs.Bytes.{part_of}
use Rattle.file_spec.specs.Files.{content}
use Rattle.oal_store.proofs.FileReads.{read-resized}
use Rattle.oal_store.proofs.log.read_zeroed.Goals as goal

pub returns-clause-bytes : goal.returns-clause-bytes
returns-clause-bytes g c =
    let size : ℕ = length c.args.into.now in
    let read = c.read_at.new.into in
    let n = c.in_ok-read_at.field-0 in
    let whole : length c.fill.new.self ≡ size = c.fill.auto.self in
    let zeros : c.fill.new.self ≡ replicate size 0 = c.fill.ensures.after (λ y e. e) in
    let long : length read ≡ size = c.read_at.auto.into ∙ whole in
    let bound : n ≤ size = subst (λ (k : ℕ). n ≤ k) whole c.in_ok-read_at.ensures.bound in
    let rest : drop n read ≡ drop n (replicate size 0) = c.in_ok-read_at.ensures.rest ∙ ap (drop n) zeros in
    record {
      same = c.read_at.ensures.files.same;
      answer = IfSome_then (g.D.Disk.shown c.args.disk.now) c.in_ok-read_at.ensures.files.answer (λ f copied.
          read-resized (content f c.args.file) read c.args.at n size long bound (copied ∙ ap (part_of (content f c.args.file) c.args.at) whole) rest);
      moments = c.read_at.ensures.moments;
      test = c.read_at.ensures.test.same refl refl;
    }
