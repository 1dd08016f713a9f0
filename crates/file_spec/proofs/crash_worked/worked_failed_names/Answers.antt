use Rattle.std.proofs.Common.{inl, refl}
use Rattle.file_spec.proofs.crash_worked.worked_failed_names.Goals as goal

pub returns-clause-sync : goal.returns-clause-sync
returns-clause-sync c t = inl refl

pub returns-clause-rename : goal.returns-clause-rename
returns-clause-rename c t = inl refl
