-- What the calls leave under each name: crates above cite these facts in their proofs.
use Rattle.std.specs.Prelude.{◌≡◌, true, List, ℕ, Option, refl}
use Rattle.std.proofs.Common.{sym, ap, ◌∙◌}
use Rattle.common_spec.specs.Maps.{IsEquality}
use Rattle.common_spec.specs.MapsLaws.{set_at-again, set_at-same}
use Rattle.file_spec.specs.declared.FileName.{FileName}
use Rattle.file_spec.specs.declared.FileName.TheVariants.{Target, Oal, Wal, Journal, Rbu, State, StateTemp}
use Rattle.file_spec.specs.Files.{Files, is_name, with_file, OnlyChanges}

-- names with one index are one name
pub is_name-same : (a b : FileName) → is_name a b ≡ true → a ≡ b
is_name-same Target Target e = refl
is_name-same Oal Oal e = refl
is_name-same Wal Wal e = refl
is_name-same Journal Journal e = refl
is_name-same Rbu Rbu e = refl
is_name-same State State e = refl
is_name-same StateTemp StateTemp e = refl
is_name-same a b e = absurd (cc)

-- a name is itself
is_name-itself : (name : FileName) → is_name name name ≡ true
is_name-itself Target = refl
is_name-itself Oal = refl
is_name-itself Wal = refl
is_name-itself Journal = refl
is_name-itself Rbu = refl
is_name-itself State = refl
is_name-itself StateTemp = refl

-- names are told apart by their index
pub IsEquality-names : IsEquality is_name
IsEquality-names = record { itself = is_name-itself; same = is_name-same }

-- the later of two changes under one name counts
pub with_file-again : (files : Files) (name : FileName) (a b : Option (List ℕ)) → with_file (with_file files name a) name b ≡ with_file files name b
with_file-again = set_at-again is_name

-- a name that is given what it has changes nothing
pub with_file-same : (files : Files) (name : FileName) (bytes : Option (List ℕ)) → files name ≡ bytes → with_file files name bytes ≡ files
with_file-same files name bytes e = set_at-same is_name files name bytes IsEquality-names e

-- nothing changes, and so at most one file does
pub OnlyChanges-none : (name : FileName) (files : Files) → OnlyChanges name files files
OnlyChanges-none name files = (files name, sym (with_file-same files name (files name) refl))

-- two changes under one name are one
pub OnlyChanges-then : (name : FileName) (f g h : Files) → OnlyChanges name f g → OnlyChanges name g h → OnlyChanges name f h
OnlyChanges-then name f g h first second =
    (second.0, second.1 ∙ ap (λ files. with_file files name second.0) first.1 ∙ with_file-again f name first.0 second.0)
