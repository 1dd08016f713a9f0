use Rattle.std.proofs.Common.{rules, ℕ, ◌≤◌, take, drop, sym, ap, ◌∙◌, refl, arith}
use Rattle.std.proofs.lemmas.Option.{IfSome_then}
use Rattle.byte_fields.specs.Bytes.{resized}
use Rattle.file_spec.specs.declared.FileName.{FileName}
use Rattle.file_spec.specs.Files.{content}
use Rattle.rbu_disk.specs.Uses.{Reads}
use Rattle.file_pages.proofs.FileReads.{take-resized}
use Rattle.file_pages.proofs.start.first_page.Goals as goal

pub page_place-place-requires-clause-suits : goal.page_place-place-requires-clause-suits
page_place-place-requires-clause-suits g c = (c.requires.places, λ some. refl)

pub read_part-requires : goal.read_part-requires
read_part-requires g c = record { allowed = c.page_place-place.ensures.file (λ (name : FileName). g.D.Disk.test c.args.disk.now (Reads name)) c.requires.allowed c.requires.log_allowed }

pub returns-clause-files : goal.returns-clause-files
returns-clause-files g c =
    let place = c.page_place-place.result in
    let size = c.args.log.now.page_size in
    let enough : 512 ≤ size = c.requires.places.1 in
    record {
      same = search rules;
      answer = IfSome_then (g.D.Disk.shown c.args.disk.now) c.in_ok-read_part.ensures.files.answer (λ f filled.
          filled ∙ ap (λ (k : ℕ). resized (drop place.at (content f place.file)) k) c.requires.long ∙ sym (take-resized (drop place.at (content f place.file)) 100 size (omega arith)) ∙ ap (take 100) (sym (c.page_place-place.ensures.page f)));
      moments = search rules;
      test = search rules;
    }
