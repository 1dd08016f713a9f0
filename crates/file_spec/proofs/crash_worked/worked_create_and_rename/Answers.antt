use Rattle.std.proofs.Common.{◌≡◌, [], ◌∷◌, Some, None, inl, inr, refl, ap, ◌∙◌, subst}
use Rattle.file_spec.specs.declared.FileName.{FileName}
use Rattle.file_spec.specs.declared.FileName.TheVariants.{Target, Oal, Wal, Journal, Rbu, State, StateTemp}
use Rattle.file_spec.specs.Files.{Files, with_file}
use Rattle.file_spec.specs.Records.{Names, Record, HoldsAt, HoldsAll, at_rest, stable}
use Rattle.file_spec.specs.RecordsLaws.{stable-itself}
use Rattle.file_spec.specs.Steps.{with_new, renamed_at}
use Rattle.file_spec.proofs.crash_worked.worked_create_and_rename.Goals as goal

abbrev old : Record
old = at_rest (λ (name : FileName). None)

abbrev made : Record
made = with_new old Oal 7 (stable (5 ∷ []))

abbrev moved : Record
moved = renamed_at made Oal Wal (Some 7)

abbrev log_at : FileName → Files
log_at name = with_file (λ (other : FileName). None) name (Some (5 ∷ []))

at_oal : HoldsAll moved.stored made.names (log_at Oal)
at_oal Target = refl
at_oal Oal = (5 ∷ [], refl, stable-itself (5 ∷ []))
at_oal Wal = refl
at_oal Journal = refl
at_oal Rbu = refl
at_oal State = refl
at_oal StateTemp = refl

at_wal : HoldsAll moved.stored moved.names (log_at Wal)
at_wal Target = refl
at_wal Oal = refl
at_wal Wal = (5 ∷ [], refl, stable-itself (5 ∷ []))
at_wal Journal = refl
at_wal Rbu = refl
at_wal State = refl
at_wal StateTemp = refl

-- under names by which a name has no file, none is left there
missing : (files : Files) (n m : Names) (name : FileName) → n ≡ m → m name ≡ None → HoldsAll moved.stored n files → files name ≡ None
missing files n m name e none holds = subst (λ x. HoldsAt moved.stored x (files name)) (ap (λ (k : Names). k name) e ∙ none) (holds name)

pub returns-clause-none : goal.returns-clause-none
returns-clause-none c = (old.names, inr (inr (inl refl)), λ name. refl)

pub returns-clause-one : goal.returns-clause-one
returns-clause-one c = (made.names, inr (inl refl), at_oal)

pub returns-clause-other : goal.returns-clause-other
returns-clause-other c = (moved.names, inl refl, at_wal)

pub returns-clause-both : goal.returns-clause-both
returns-clause-both c (n, inl e, holds) = let gone = missing (with_file (log_at Oal) Wal (Some (5 ∷ []))) n moved.names Oal e refl holds in absurd (cc)
returns-clause-both c (n, inr (inl e), holds) = let gone = missing (with_file (log_at Oal) Wal (Some (5 ∷ []))) n made.names Wal e refl holds in absurd (cc)
returns-clause-both c (n, inr (inr (inl e)), holds) = let gone = missing (with_file (log_at Oal) Wal (Some (5 ∷ []))) n old.names Wal e refl holds in absurd (cc)
returns-clause-both c (n, inr (inr (inr none)), holds) = absurd none

pub returns-clause-settled : goal.returns-clause-settled
returns-clause-settled c (n, inl e, holds) = let gone = missing (log_at Oal) n moved.names Oal e refl holds in absurd (cc)
returns-clause-settled c (n, inr none, holds) = absurd none
