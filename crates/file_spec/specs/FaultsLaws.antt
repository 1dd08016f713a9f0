-- What a call that fails keeps: crates above cite these facts in their proofs.
use Rattle.std.specs.Prelude.{ℕ}
use Rattle.std.proofs.Common.{sym, subst, inl, inr, Some}
use Rattle.file_spec.specs.declared.FileName.{FileName}
use Rattle.file_spec.specs.Files.{Files, OnlyChanges}
use Rattle.file_spec.specs.FilesLaws.{OnlyChanges-none}
use Rattle.file_spec.specs.Faults.{AfterTornWrite}

-- a write that failed changes at most its file
pub OnlyChanges-torn : (name : FileName) (at n : ℕ) (f g : Files) → AfterTornWrite name at n f g → OnlyChanges name f g
OnlyChanges-torn name at n f g (inl same) = subst (OnlyChanges name f) (sym same) (OnlyChanges-none name f)
OnlyChanges-torn name at n f g (inr torn) = (Some torn.0, torn.1)
