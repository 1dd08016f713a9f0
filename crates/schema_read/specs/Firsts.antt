-- Maps from keys to the first place among items that passes a key's test.
use Rattle.std.specs.Prelude.{◌≡◌, ℕ, Bool, false, cond, nat_lt, List, Option, Some, None}
use Rattle.std.specs.List.{position_from}
use Rattle.std.specs.Option.{option_or}
use Rattle.indexmap.specs.IndexMap.{IndexMap, get}

module _ {K S : Type 0} (eq : K → K → Bool) where
  -- a key was noted with a place, unless it had one
  abbrev pub NotesKey : IndexMap K ℕ S → IndexMap K ℕ S → K → ℕ → Type 0
  NotesKey old new key at = (k : K) → get eq new k ≡ option_or (get eq old k) (cond (eq k key) (Some at) None)

  module _ {A : Type 0} (test : K → A → Bool) where
    -- each key has the first place that passes its test, and no other key has one
    abbrev pub HasFirsts : IndexMap K ℕ S → List A → Type 0
    HasFirsts firsts items = (k : K) → get eq firsts k ≡ position_from (test k) 0 items

    -- so it will be, once the items that are left, from a place on, are noted
    abbrev pub WillHaveFirsts : IndexMap K ℕ S → ℕ → List A → List A → Type 0
    WillHaveFirsts firsts at left items = (k : K) → option_or (get eq firsts k) (position_from (test k) at left) ≡ position_from (test k) 0 items

    -- an item was noted with its place, unless its key had one
    abbrev pub Notes : IndexMap K ℕ S → IndexMap K ℕ S → ℕ → A → Type 0
    Notes old new at item = (k : K) → get eq new k ≡ option_or (get eq old k) (cond (test k item) (Some at) None)

-- a place that there may be is before another
abbrev pub is_before : ℕ → Option ℕ → Bool
is_before at None = false
is_before at (Some place) = nat_lt place at
