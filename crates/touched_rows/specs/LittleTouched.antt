-- The rows that the small update touches, worked out by hand: one is changed, one deleted, one replaced and one inserted.
use Rattle.std.specs.Prelude.{ℕ, ℤ, pos, List, [], ◌∷◌, Some, None, codes}
use Rattle.rbu_value.specs.declared.value.Value.{Value}
use Rattle.rbu_value.specs.declared.value.Value.TheVariants.{Int, Text}
use Rattle.index_changes.specs.declared.pairs.OldNew.{OldNew}

abbrev little_given : ℕ → List ℕ → ℕ → ℤ × List Value
little_given rowid text c = (pos rowid, Int (pos rowid) ∷ Text text ∷ Int (pos c) ∷ [])

abbrev pub little_pairs : List OldNew
little_pairs =
    record { old = Some (little_given 1 (codes "one") 10); new = Some (little_given 1 (codes "one") 11) } ∷ record { old = Some (little_given 2 (codes "two") 20); new = None }
    ∷ record { old = Some (little_given 3 (codes "three") 30); new = Some (little_given 3 (codes "drei") 20) } ∷ record { old = None; new = Some (little_given 4 (codes "four") 40) } ∷ []
