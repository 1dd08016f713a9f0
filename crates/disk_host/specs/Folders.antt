-- The folder in which a path lies.
use Rattle.std.specs.Prelude.{◌==◌, ℕ, List, Option, Some, None, codes, length, if◌then◌else◌}
use Rattle.std.specs.Path.{path_parent}

-- a folder by its text, where the empty text is the folder in which the program runs
abbrev pub named_folder : Option (List ℕ) → List ℕ
named_folder None = codes "."
named_folder (Some folder) = if length folder == 0 then codes "." else folder

-- the folder in which a path lies, `.` where it has none
abbrev pub folder_of : List ℕ → List ℕ
folder_of path = named_folder (path_parent path)
