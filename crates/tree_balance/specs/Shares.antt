-- Shares of a list of cells, each of which one page is to hold (Database File Format, section 1.6).
use Rattle.std.specs.Prelude.{◌≡◌, ◌⊎◌, ℕ, ◌+◌, ◌-◌, ◌<◌, ◌≤◌, List, [], ◌∷◌, length, take, drop}
use Rattle.page_spec.specs.Rooms.{needs}
use Rattle.tree_balance.specs.declared.share.Share.{Share}

-- the cells of a share
abbrev pub cells_of : List (List ℕ) → Share → List (List ℕ)
cells_of cells share = take (share.to - share.from) (drop share.from cells)

-- the shares lie one behind the other, from an index up to an end
abbrev pub Cover : ℕ → List Share → ℕ → Type 0
Cover from [] end = from ≡ end
Cover from (share ∷ shares) end = (share.from ≡ from) × (from ≤ share.to) × Cover share.to shares end

-- the share has no room for the cell behind it
abbrev pub IsFilled : List (List ℕ) → ℕ → Share → Type 0
IsFilled cells room share = room < needs (take (share.to - share.from + 1) (drop share.from cells))

-- The last share and the one before it. That one keeps more cells than go up, and the last needs no more bytes than it, or it has no room for another cell. If it gave one more to the last, and kept enough, the last would need more bytes than it.
pub record AreEven (cells : List (List ℕ)) (up room : ℕ) (before last : Share) : Type 0 where
  pub full : ((before.from + up < before.to) × (needs (cells_of cells last) ≤ needs (cells_of cells before))) ⊎ IsFilled cells room before
  pub even : before.from + up + 1 < before.to
      → needs (take (before.to - before.from - 1) (drop before.from cells)) < needs (drop (before.to - before.from - 1) (drop before.from cells))

-- each share fits its page: the first page has room of its own
abbrev pub FitPages : List (List ℕ) → ℕ → ℕ → List Share → Type 0
FitPages cells room first [] = Unit {0}
FitPages cells room first (share ∷ shares) = (needs (cells_of cells share) ≤ first) × FitPages cells room room shares

-- each share has a cell, but maybe the first, where its page has less room than others
abbrev pub HaveCells : ℕ → ℕ → List Share → Type 0
HaveCells room first [] = Unit {0}
HaveCells room first (share ∷ shares) = (room ≤ first → share.from < share.to) × HaveCells room room shares

-- the shares are filled from the left, and the last two are evened out
abbrev pub AreFilled : List (List ℕ) → ℕ → ℕ → ℕ → List Share → Type 0
AreFilled cells up room first [] = Unit {0}
AreFilled cells up room first (last ∷ []) = Unit {0}
AreFilled cells up room first (before ∷ last ∷ []) = AreEven cells up first before last
AreFilled cells up room first (share ∷ next ∷ more ∷ shares) = IsFilled cells first share × AreFilled cells up room room (next ∷ more ∷ shares)

-- each share but the last has more cells than go up from it
abbrev pub HaveDividers : ℕ → List Share → Type 0
HaveDividers up [] = Unit {0}
HaveDividers up (last ∷ []) = Unit {0}
HaveDividers up (share ∷ next ∷ shares) = (share.from + up < share.to) × HaveDividers up (next ∷ shares)

-- all of this, of shares of the cells from an index on
pub record AreLaid (cells : List (List ℕ)) (up room from first : ℕ) (shares : List Share) : Type 0 where
  pub cover : Cover from shares (length cells)
  pub fits : FitPages cells room first shares
  pub some : HaveCells room first shares
  pub filled : AreFilled cells up room first shares
