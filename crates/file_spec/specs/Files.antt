-- The files, and what each call on a disk that ends well leaves of them.
use Rattle.std.specs.Prelude.{◌≡◌, ℕ, Bool, ◌==◌, List, [], Option, Some, None, unwrap_or}
use Rattle.common_spec.specs.Maps.{set_at}
use Rattle.byte_fields.specs.Bytes.{resized, overwritten}
use Rattle.file_spec.specs.declared.FileName.{FileName}
use Rattle.file_spec.specs.declared.FileName.TheVariants.{Target, Oal, Wal, Journal, Rbu, State, StateTemp}

-- the files as a map from their names to their bytes; a name without a file has `None`
abbrev pub Files : Type 0
Files = FileName → Option (List ℕ)

-- the place of a name in the list of names
abbrev pub name_index : FileName → ℕ
name_index Target = 0
name_index Oal = 1
name_index Wal = 2
name_index Journal = 3
name_index Rbu = 4
name_index State = 5
name_index StateTemp = 6

-- whether two names are one
abbrev pub is_name : FileName → FileName → Bool
is_name a b = name_index a == name_index b

-- the bytes under a name; a missing file has none
abbrev pub content : Files → FileName → List ℕ
content files name = unwrap_or (files name) []

-- the files with these bytes, or no file, under one name
abbrev pub with_file : Files → FileName → Option (List ℕ) → Files
with_file = set_at is_name

-- a write at a place, which makes a missing file first
abbrev pub after_write : Files → FileName → ℕ → List ℕ → Files
after_write files name at bytes = with_file files name (Some (overwritten (content files name) at bytes))

-- a change of length, which makes a missing file first
abbrev pub after_set_len : Files → FileName → ℕ → Files
after_set_len files name n = with_file files name (Some (resized (content files name) n))

-- a name that has no file gets an empty one
abbrev pub after_create : Files → FileName → Files
after_create files name = with_file files name (Some (content files name))

-- the name has no file
abbrev pub after_remove : Files → FileName → Files
after_remove files name = with_file files name None

-- a missing file stays missing
abbrev pub moved : Files → FileName → FileName → Option (List ℕ) → Files
moved files from to None = files
moved files from to (Some bytes) = with_file (with_file files from None) to (Some bytes)

-- a file takes another name, in place of what that had; a missing one changes nothing
abbrev pub after_rename : Files → FileName → FileName → Files
after_rename files from to = moved files from to (files from)

-- at most the file under one name changes
abbrev pub OnlyChanges : FileName → Files → Files → Type 0
OnlyChanges name before after = (bytes : Option (List ℕ)) × (after ≡ with_file before name bytes)
