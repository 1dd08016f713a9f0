-- The answer of a check, by what `file_check` says of the file.
use Rattle.std.proofs.Common.{◌≡◌, ℕ, List, length, Ok, Err, refl, ap, ap₂, ◌∙◌, inl, inr}
use Rattle.std.proofs.Math.Path.{subst⁻¹}
use Rattle.tree_spec.specs.Standing.{Sizes, Paged}
use Rattle.database_spec.specs.declared.catalog.Catalog.{Catalog}
use Rattle.database_spec.specs.declared.fault.FileFault.TheVariants as file
use Rattle.db_check.specs.declared.fault.CheckFault.{CheckFault}
use Rattle.db_check.specs.declared.fault.CheckFault.TheVariants as check
use Rattle.file_check.specs.declared.counting.Census.{Census}
use Rattle.file_check.specs.Answers.{ChecksFile}
use Rattle.table_dump.specs.declared.fault.PrintFault.{PrintFault}
use Rattle.table_dump.specs.Answers.{IsRefusedOrOther}
use Rattle.check_spec.specs.Checks.{sound_line, IsSoundAnswer}
use Rattle.rbu_query.specs.Answers.{of_check_fault}

module _ (sizes : Sizes) (base : Paged) (catalog : Catalog) where
  -- a sound file
  pub known-sound : (F : Type 0) (census : Census) (text : List ℕ) → ChecksFile {F = F} sizes base catalog (Ok census) → text ≡ sound_line census.pages census.trees → IsSoundAnswer sizes base (Ok text)
  known-sound F census text is e =
      let has = is.holds in
      let said : text ≡ sound_line base.count (length catalog.roots) = e ∙ ap₂ sound_line has.pages has.trees in
      inr (catalog, has.database, has.sound, ap Ok said)

  -- and one that is not
  pub known-wrong : {F : Type 0} (fault : CheckFault F) (told : PrintFault F) → told ≡ of_check_fault fault → ChecksFile sizes base catalog (Err fault)
      → IsRefusedOrOther (λ refusal. IsSoundAnswer sizes base (Err refusal)) told
  known-wrong (check.PageTwice page) told e is = subst⁻¹ (IsRefusedOrOther (λ refusal. IsSoundAnswer sizes base (Err refusal))) e (inl (file.PageTwice page, is.holds, refl))
  known-wrong (check.PageLost page) told e is = subst⁻¹ (IsRefusedOrOther (λ refusal. IsSoundAnswer sizes base (Err refusal))) e (inl (file.PageLost page, is.holds, refl))
  known-wrong (check.KeyOrder page) told e is = subst⁻¹ (IsRefusedOrOther (λ refusal. IsSoundAnswer sizes base (Err refusal))) e (inl (file.KeyOrder page, is.holds, refl))
  known-wrong (check.IndexDisagrees index rowid) told e is = subst⁻¹ (IsRefusedOrOther (λ refusal. IsSoundAnswer sizes base (Err refusal))) e (inl (file.IndexDisagrees index rowid, is.holds, refl))
  known-wrong (check.Damaged page rule) told e is = subst⁻¹ (IsRefusedOrOther (λ refusal. IsSoundAnswer sizes base (Err refusal))) e (inl (file.Damaged page rule, is.holds, refl))
  known-wrong (check.Store fault) told e is = subst⁻¹ (IsRefusedOrOther (λ refusal. IsSoundAnswer sizes base (Err refusal))) e tt
  known-wrong (check.Memory error) told e is = subst⁻¹ (IsRefusedOrOther (λ refusal. IsSoundAnswer sizes base (Err refusal))) e tt
