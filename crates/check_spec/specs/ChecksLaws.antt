-- Pages and files have one answer of a check: crates above cite these facts in their proofs.
use Rattle.std.proofs.Common.{◌≡◌, length, Ok, Err, sym, ap, ◌∙◌, inl, inr}
use Rattle.common_spec.specs.ReadingLaws.{IsOne}
use Rattle.file_spec.specs.Files.{Files}
use Rattle.tree_spec.specs.Standing.{Sizes, Paged}
use Rattle.database_spec.specs.declared.catalog.Catalog.{Catalog}
use Rattle.database_spec.specs.declared.fault.FileFault.{FileFault}
use Rattle.database_spec.specs.CatalogsLaws.{has_catalog-one}
use Rattle.database_spec.specs.FileFaultsLaws.{file_fault-one}
use Rattle.database_laws.specs.SoundFilesLaws.{sound-no_fault}
use Rattle.dump_spec.specs.FileAnswersLaws.{files_answer-one}
use Rattle.dump_spec.specs.Refusals.{file_refusal}
use Rattle.check_spec.specs.Checks.{sound_line, IsSoundAnswer, IsCheck}

pub sound_answer-one : (sizes : Sizes) (base : Paged) → IsOne (IsSoundAnswer sizes base)
sound_answer-one sizes base a b (inl p) (inl q) = p.2 ∙ ap (λ (f : FileFault). Err (file_refusal f)) (file_fault-one sizes base p.0 q.0 p.1 q.1) ∙ sym q.2
sound_answer-one sizes base a b (inl p) (inr q) = absurd (sound-no_fault sizes base q.0 q.1 p.0 q.2 p.1)
sound_answer-one sizes base a b (inr p) (inl q) = absurd (sound-no_fault sizes base p.0 p.1 q.0 p.2 q.1)
sound_answer-one sizes base a b (inr p) (inr q) =
    p.3 ∙ ap (λ (c : Catalog). Ok (sound_line base.count (length c.roots))) (has_catalog-one sizes base p.0 q.0 p.2.whole.has_catalog q.2.whole.has_catalog) ∙ sym q.3

pub check-one : (files : Files) → IsOne (IsCheck files)
check-one = files_answer-one IsSoundAnswer sound_answer-one
