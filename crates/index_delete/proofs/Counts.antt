-- How many pages a level takes, by what was left of its child and what is left of it.
use Rattle.std.proofs.Common.{◌≡◌, ◌⊎◌, ℕ, refl, ◌∷◌, ◌+◌, ◌-◌, ◌<◌, ◌≤◌, List, [], Result, Ok, Err, IfOk, length, inl, inr, arith, ap}
use Rattle.index_delete.specs.declared.levels.Left.{Left}
use Rattle.index_delete.specs.declared.levels.Left.TheVariants.{Cells, NoCell}
use Rattle.index_delete.specs.declared.levels.Opened.{Opened}
use Rattle.index_delete.specs.Deletes.{Brings, HasCell, IsStill, closed_most, opened_most, passed_most, root_most}
use Rattle.index_delete.specs.Needs.{short_most}

pub passed-within : (below left : Left) (opened : Opened) → length opened.comes.items ≤ 2 → HasCell left ⊎ (length opened.comes.items ≡ 0) → opened_most below opened + closed_most left ≤ passed_most below left
passed-within (Cells dividers) (Cells others) opened few none = omega arith
passed-within (Cells dividers) (NoCell emptied) opened few none = omega arith
passed-within (NoCell emptied) (Cells dividers) opened few none = omega (arith, few)
passed-within (NoCell emptied) (NoCell also) opened few (inl cell) = absurd cell
passed-within (NoCell emptied) (NoCell also) opened few (inr none) = omega (arith, none)

-- one cell more may come where another is replaced, but no page is taken for it yet
pub replaced-within : (below left : Left) (opened : Opened) → (HasCell below → 0 < length opened.comes.items) → (HasCell below ⊎ (length opened.comes.items ≤ 2)) → HasCell left ⊎ (length opened.comes.items ≡ 0)
    → opened_most below opened + closed_most left ≤ passed_most below left
replaced-within (Cells dividers) (Cells others) opened came few none = omega arith
replaced-within (Cells dividers) (NoCell emptied) opened came few none = omega arith
replaced-within (NoCell emptied) (Cells dividers) opened came (inl cell) none = absurd cell
replaced-within (NoCell emptied) (Cells dividers) opened came (inr few) none = omega (arith, few)
replaced-within (NoCell emptied) (NoCell also) opened came few (inl cell) = absurd cell
replaced-within (NoCell emptied) (NoCell also) opened came few (inr none) = omega (arith, none)

pub root-within : (below : Left) (opened : Opened) → HasCell below ⊎ (length opened.comes.items ≤ 2) → opened_most below opened + 3 ≤ root_most below
root-within (Cells dividers) opened few = omega arith
root-within (NoCell emptied) opened (inl cell) = absurd cell
root-within (NoCell emptied) opened (inr few) = omega (arith, few)

pub root-least : (below : Left) → 3 ≤ root_most below
root-least (Cells dividers) = omega arith
root-least (NoCell emptied) = omega arith

-- what has to be left where a page is opened, and where it is closed
pub short-least : (below : Left) → 2 ≤ short_most below
short-least (Cells dividers) = omega arith
short-least (NoCell emptied) = omega arith

pub short-opened : (below : Left) (opened : Opened) → HasCell below ⊎ (length opened.comes.items ≤ 2) → opened_most below opened + 2 ≤ short_most below
short-opened (Cells dividers) opened few = omega arith
short-opened (NoCell emptied) opened (inl cell) = absurd cell
short-opened (NoCell emptied) opened (inr few) = omega (arith, few)

-- cells that go up come to a page
pub some-come : (below : Left) (opened : Opened) → (IsStill below → ⊥) → Brings below opened → HasCell below → 0 < length opened.comes.items
some-come (Cells dividers) opened more brings has = some-items dividers.items opened.comes.items more brings
  where
    some-items : (xs ys : List (List ℕ)) → (xs ≡ [] → ⊥) → ys ≡ xs → 0 < length ys
    some-items [] ys more same = absurd (more refl)
    some-items (x ∷ xs) ys more same = omega (arith, ap length same)
some-come (NoCell emptied) opened more brings has = absurd has

pub if-ok_each : {T E : Type 0} {P : T → Type 0} (result : Result T E) → ((x : T) → P x) → IfOk result P
if-ok_each (Ok x) each = each x
if-ok_each (Err e) each = tt
