use Rattle.std.proofs.Common.{◌≡◌, ℕ, drop, option_map, sym, ap, ◌∙◌}
use Rattle.std.proofs.lemmas.Option.{IfSome_then}
use Rattle.std.specs.Option.{option_copied}
use Rattle.byte_fields.specs.Bytes.{resized}
use Rattle.file_spec.specs.declared.FileName.{FileName}
use Rattle.file_spec.specs.Files.{content}
use Rattle.rbu_disk.specs.Uses.{Reads}
use Rattle.file_pages.specs.Overlay.{pages_over}
use Rattle.file_pages.proofs.FileReads.{seen-as}
use Rattle.file_pages.proofs.pages.FilePagesPageRead.page.Goals as goal

pub read_part-requires : goal.read_part-requires
read_part-requires g c =
    let pages = c.args.self.now in
    record { allowed = c.page_place-place.ensures.file (λ (name : FileName). g.D.Disk.test pages.disk.now (Reads name)) pages.allowed pages.log_allowed }

pub returns-clause-pages : goal.returns-clause-pages
returns-clause-pages g c =
    let pages = c.args.self.now in
    let size = pages.header.page_size in
    let place = c.page_place-place.result in
    let shown = g.D.Disk.shown pages.disk.now in
    let read = c.read_part.new.into in
    record {
      same = ap (option_map (pages_over size (option_copied pages.log) pages.file)) c.in_ok-read_part.ensures.files.same;
      answer = seen-as (pages_over size (option_copied pages.log) pages.file) (λ m. read ≡ m c.args.number) shown
          (IfSome_then shown c.in_ok-read_part.ensures.files.answer (λ f filled.
          filled ∙ ap (λ (k : ℕ). resized (drop place.at (content f place.file)) k) c.requires.whole ∙ sym (c.page_place-place.ensures.page f)));
    }
