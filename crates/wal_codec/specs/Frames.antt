-- The frames that a log of a whole file has (Database File Format, section 4.1).
use Rattle.std.specs.Prelude.{ℕ, List, [], ◌∷◌}
use Rattle.format_spec.specs.Log.{Frame}

-- page 1 not in a commit, and page 2 with the commit of a file of two pages
abbrev pub two_pages : List ℕ → List ℕ → List Frame
two_pages page1 page2 = record { number = 1; commit = 0; page = page1 } ∷ record { number = 2; commit = 2; page = page2 } ∷ []
