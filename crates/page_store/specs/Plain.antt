-- What a store in memory holds.
use Rattle.std.specs.Prelude.{ℕ, List, [], ◌∷◌, map, slice_index_or, Vec}
use Rattle.page_spec.specs.Pages.{Pages}

-- pages by their numbers from lists of bytes in order; there is no page 0
abbrev pub numbered : List (List ℕ) → Pages
numbered contents n = slice_index_or ([] ∷ contents) n []
