-- Which disks show a reader one database whatever a crash leaves: crates above cite these facts in their proofs.
use Rattle.std.proofs.Common.{◌≡◌, Option, Some, None, is_some, false, List, ℕ, refl, sym, ap, ◌∙◌, subst}
use Rattle.file_spec.specs.declared.FileName.TheVariants.{Target, Wal}
use Rattle.file_spec.specs.Files.{Files}
use Rattle.file_spec.specs.Records.{Record, shown_files, at_rest}
use Rattle.file_spec.specs.RecordsLaws.{rest-only, rest-shown}
use Rattle.file_spec.specs.Trails.{Trail}
use Rattle.file_spec.specs.Steps.{AfterCrash}
use Rattle.update_spec.specs.ViewLaws.{KeepsView-parts, KeepsView-same}
use Rattle.update_spec.specs.Crashes.{ImagesKeepView, HasShownNames, HasShownFile}

-- one at rest
pub ImagesKeepView-rest : (files : Files) → ImagesKeepView (at_rest files)
ImagesKeepView-rest files left image = KeepsView-same (shown_files (at_rest files)) left (rest-only files left image ∙ sym (rest-shown files))

-- so one that has crashed
pub ImagesKeepView-crash : (a b : Trail) → AfterCrash a b → ImagesKeepView b.now.at
ImagesKeepView-crash a b (files, image, is) = subst ImagesKeepView (sym (ap (λ (t : Trail). t.now.at) is)) (ImagesKeepView-rest files)

missing : (file : Option (List ℕ)) → is_some file ≡ false → file ≡ None
missing None e = refl
missing (Some bytes) e = absurd (let lost = e in cc)

-- and one whose names and target are stable, where it shows no log
pub ImagesKeepView-stable : (r : Record) → HasShownNames r → HasShownFile Target r → shown_files r Wal ≡ None → ImagesKeepView r
ImagesKeepView-stable r names target none left image =
    let no_log : left Wal ≡ None = missing (left Wal) (names left image Wal ∙ ap is_some none) in
    KeepsView-parts (shown_files r) (shown_files r) left (target left image) (no_log ∙ sym none) (KeepsView-same (shown_files r) (shown_files r) refl)
