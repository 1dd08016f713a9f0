use Rattle.std.proofs.Common.{◌≡◌, length, refl, sym, ap, ◌∙◌}
use Rattle.std.specs.Vec.{with_items}
use Rattle.std.proofs.lemmas.List.{with_items_is}
use Rattle.common_spec.specs.ToldLaws.{told-both}
use Rattle.byte_fields.specs.BytesLaws.{resized-same}
use Rattle.file_spec.specs.Files.{content}
use Rattle.rbu_run.proofs.files.small_bytes.Goals as goal

pub read_whole-requires-clause-zeros : goal.read_whole-requires-clause-zeros
read_whole-requires-clause-zeros g c = rw c.deref_mut.ensures.value c.in_ok-bytes.ensures.zeros

pub returns-clause-files : goal.returns-clause-files
returns-clause-files g c =
    let lent : length c.deref_mut.result.now ≡ length c.in_ok-bytes.bytes.items = ap length c.deref_mut.ensures.value in
    let held : (with_items c.in_ok-bytes.bytes c.read_whole.new.into).items ≡ c.read_whole.new.into =
    with_items_is c.in_ok-bytes.bytes c.read_whole.new.into (c.read_whole.auto.into ∙ lent ∙ sym c.in_ok-bytes.bytes.ok.0) in
    record {
      same = c.read_whole.ensures.files.same ∙ c.len.ensures.files.same;
      answer = told-both (g.D.Disk.shown c.args.disk.now) c.len.ensures.files.same c.in_ok-len.ensures.files.answer c.in_ok-read_whole.ensures.files.answer
          (λ f long read. held ∙ read ∙ resized-same (content f c.args.name) (length c.deref_mut.result.now) (sym long ∙ c.if-branch.false ∙ sym (lent ∙ c.in_ok-bytes.ensures.long)));
      moments = c.read_whole.ensures.files.moments ∙ c.len.ensures.moments;
      test = c.read_whole.ensures.files.test ∙ c.len.ensures.test.same refl refl;
    }
