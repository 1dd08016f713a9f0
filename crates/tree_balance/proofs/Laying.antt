-- Shares that are laid one behind the other.
use Rattle.std.proofs.Common.{◌≡◌, ℕ, zero, suc, ◌+◌, ◌-◌, ◌*◌, ◌<◌, ◌≤◌, ◌⊎◌, List, [], ◌∷◌, ◌++◌, length, min, take, drop, get_or, ap, inl, inr, arith, append_assoc, length-drop}
use Rattle.std.proofs.Math.Path.{subst⁻¹}
use Rattle.std.proofs.Math.Nat.{mul-le-mul_left}
use Rattle.std.specs.List.{All}
use Rattle.std.proofs.lemmas.Bool.{cases_lt}
use Rattle.std.proofs.lemmas.List.{length-take, take_all, take_rest, take-take, drop-drop}
use Rattle.std.proofs.lemmas.List.Elements.{All-take, All-drop}
use Rattle.format_spec.specs.declared.PageKind.{PageKind}
use Rattle.format_spec.specs.declared.PageKind.TheVariants.{IndexInterior, TableInterior, IndexLeaf, TableLeaf}
use Rattle.format_spec.specs.Page.{cell_room}
use Rattle.format_spec.specs.Sizes.{IsUsable}
use Rattle.page_spec.specs.Rooms.{IsOneCell, needs}
use Rattle.tree_balance.specs.Cuts.{page_room, risen}
use Rattle.tree_balance.specs.declared.share.Share.{Share}
use Rattle.tree_balance.specs.Shares.{cells_of, Cover, IsFilled, AreFilled, HaveDividers, AreLaid}
use Rattle.tree_balance.specs.NeedsLaws.{cell-need, needs-parts, needs-below, thrice-below}

-- so many cells of those from an index on need so many times what one needs at most
needs-few : (room n from : ℕ) (cells : List (List ℕ)) → All (λ cell. cell_room cell + 2 ≤ room) cells → needs (take n (drop from cells)) ≤ n * room
needs-few room n from cells all =
    omega (
      arith,
      needs-below room (take n (drop from cells)) (All-take (λ cell. cell_room cell + 2 ≤ room) n (drop from cells) (All-drop (λ cell. cell_room cell + 2 ≤ room) from cells all)),
      mul-le-mul_left room (few n (drop from cells)),
    )
  where
    few : (n : ℕ) (xs : List (List ℕ)) → length (take n xs) ≤ n
    few n xs = omega (arith, length-take n xs)

-- the last cells are all that is left
pub needs-all : (cells : List (List ℕ)) (from here next room : ℕ) → from + here + next ≡ length cells → needs (take next (drop (from + here) cells)) ≤ room → needs (drop here (drop from cells)) ≤ room
needs-all cells from here next room ends fits =
    let many : length (drop (from + here) cells) ≤ next = omega (arith, length-drop (from + here) cells) in
    omega (arith, ap needs (drop-drop here from cells), ap needs (take_all next (drop (from + here) cells) many))

-- a page with as much room as others takes a cell
pub some-filled : (room free here from : ℕ) (cells : List (List ℕ)) → All (λ cell. cell_room cell + 2 ≤ room) cells → free < needs (take (here + 1) (drop from cells)) → room ≤ free → 0 < here
some-filled room free zero from cells all full most = absurd (omega (arith, needs-few room 1 from cells all))
some-filled room free (suc here) from cells all full most = omega arith

-- nor is the page empty that takes as many as it has room for
pub some-next : (room here from : ℕ) (cells : List (List ℕ)) → All (λ cell. cell_room cell + 2 ≤ room) cells → from < length cells
    → (here < length (drop from cells) → room < needs (take (here + 1) (drop from cells))) → 0 < here
some-next room zero from cells all more full = some-filled room room zero from cells all (full (omega (arith, length-drop from cells))) (omega arith)
some-next room (suc here) from cells all more full = omega arith

-- whatever is laid behind some shares, with two of them at least, is laid with them
abbrev pub LaidOn : List (List ℕ) → ℕ → ℕ → ℕ → ℕ → ℕ → List Share → Type 0
LaidOn cells up room first from free shares = (rest : List Share) → 2 ≤ length rest → AreLaid cells up room from free rest → AreLaid cells up room 0 first (shares ++ rest)

module _ (cells : List (List ℕ)) (up room first : ℕ) (all : All (λ cell. cell_room cell + 2 ≤ room) cells) where
  filled-more : (free : ℕ) (s : Share) (rest : List Share) → 2 ≤ length rest → IsFilled cells free s → AreFilled cells up room room rest → AreFilled cells up room free (s ∷ rest)
  filled-more free s [] long full filled = absurd (omega arith)
  filled-more free s (a ∷ []) long full filled = absurd (omega arith)
  filled-more free s (a ∷ b ∷ rest) long full filled = (full, filled)

  -- one share more, which is filled
  pub laid-more : (shares : List Share) (s : Share) (from here free : ℕ) → s.from ≡ from → s.to ≡ from + here → needs (take here (drop from cells)) ≤ free
      → free < needs (take (here + 1) (drop from cells)) → LaidOn cells up room first from free shares → LaidOn cells up room first (from + here) room (shares ++ s ∷ [])
  laid-more shares s from here free starts ends fits full laid rest long is =
      let many : s.to - s.from ≡ here = omega arith in
      let same : cells_of cells s ≡ take here (drop from cells) = cc in
      let wider : take (s.to - s.from + 1) (drop s.from cells) ≡ take (here + 1) (drop from cells) = cc in
      rw append_assoc
      (
      laid (s ∷ rest) (omega arith)
      (record {
        cover = (starts, omega arith, subst⁻¹ (λ (n : ℕ). Cover n rest (length cells)) ends is.cover);
        fits = (omega (arith, ap needs same), is.fits);
        some = (λ most. omega (arith, some-filled room free here from cells all full most), is.some);
        filled = filled-more free s rest long (omega (arith, ap needs wider)) is.filled;
      })
      )

  -- the last two shares
  pub laid-last : (shares : List Share) (s t : Share) (from here front free : ℕ) → s.from ≡ from → s.to ≡ from + front → t.from ≡ from + front → t.to ≡ length cells → from + here < length cells
      → free ≤ room → needs (take here (drop from cells)) ≤ free → free < needs (take (here + 1) (drop from cells)) → needs (drop here (drop from cells)) ≤ room
      → front ≤ here → min (up + 1) here ≤ front → (front ≡ here) ⊎ (needs (drop front (drop from cells)) ≤ needs (take front (drop from cells)))
      → (up + 1 < front → needs (take (front - 1) (drop from cells)) < needs (drop (front - 1) (drop from cells)))
      → LaidOn cells up room first from free shares → AreLaid cells up room 0 first ((shares ++ s ∷ []) ++ t ∷ [])
  laid-last shares s t from here front free starts ends starts_next ends_next more less fits full fits_next within least moved even laid =
      rw append_assoc
      (
      laid (s ∷ t ∷ []) (omega arith)
      (record {
        cover = (starts, omega arith, (omega arith, omega arith, ends_next));
        fits = (omega (arith, ap needs same, smaller), (omega (arith, ap needs rest, back moved), tt));
        some = (λ most. omega (arith, some-filled room free here from cells all full most), (λ most. omega arith, tt));
        filled = record { full = filled; even = evens };
      })
      )
    where
      many : s.to - s.from ≡ front
      many = omega arith

      same : cells_of cells s ≡ take front (drop from cells)
      same = let n = many in cc

      behind : t.to - t.from ≡ length cells - (from + front)
      behind = omega arith

      rest : cells_of cells t ≡ drop front (drop from cells)
      rest = let n = behind in let all_left = take_rest cells (from + front) in let both = drop-drop front from cells in cc

      smaller : needs (take front (drop from cells)) ≤ free
      smaller = omega (arith, needs-parts (take here (drop from cells)) front, ap needs (take-take front here (drop from cells) within))

      back : (front ≡ here) ⊎ (needs (drop front (drop from cells)) ≤ needs (take front (drop from cells))) → needs (drop front (drop from cells)) ≤ room
      back (inl stays) = subst⁻¹ (λ (n : ℕ). needs (drop n (drop from cells)) ≤ room) stays fits_next
      back (inr small) = omega (arith, smaller)

      still : (n : ℕ) → s.to - s.from ≡ n → (k : ℕ) → take (s.to - s.from + k) (drop s.from cells) ≡ take (n + k) (drop from cells)
      still n is k = cc

      filled : ((s.from + up < s.to) × (needs (cells_of cells t) ≤ needs (cells_of cells s))) ⊎ IsFilled cells free s
      filled =
          elim (cases_lt front here) [
            | inl fewer ↦ elim moved [
              | inl stays ↦ absurd (omega arith)
              | inr small ↦ inl (omega arith, omega (arith, ap needs same, ap needs rest))
            ]
            | inr all_stay ↦ inr (omega (arith, ap needs (still here (omega (arith, many)) 1)))
          ]

      evens : s.from + up + 1 < s.to → needs (take (s.to - s.from - 1) (drop s.from cells)) < needs (drop (s.to - s.from - 1) (drop s.from cells))
      evens kept =
          let one : s.to - s.from - 1 ≡ front - 1 = omega arith in
          let fronts : take (s.to - s.from - 1) (drop s.from cells) ≡ take (front - 1) (drop from cells) = cc in
          let backs : drop (s.to - s.from - 1) (drop s.from cells) ≡ drop (front - 1) (drop from cells) = cc in
          omega (arith, even (omega arith), ap needs fronts, ap needs backs)

module _ (cells : List (List ℕ)) (up room first : ℕ) where
  -- a first page that has room for all
  pub laid-one : (s : Share) → s.from ≡ 0 → s.to ≡ length cells → 0 < length cells → needs cells ≤ first → AreLaid cells up room 0 first (s ∷ [])
  laid-one s starts ends some fits = record {
    cover = (starts, omega arith, ends);
    fits = (omega (arith, ap needs same), tt);
    some = (λ most. omega arith, tt);
    filled = tt;
  }
    where
      many : s.to - s.from ≡ length cells
      many = omega arith

      same : cells_of cells s ≡ cells
      same = let n = many in let whole = take_all (length cells) cells (omega arith) in cc

  pub laid-none : length cells ≡ 0 → AreLaid cells up room 0 first []
  laid-none none = record { cover = omega arith; fits = tt; some = tt; filled = tt }

-- Where a page has room for three cells of which one goes up, each share but the last has two.

thrice-few : (room n from : ℕ) (cells : List (List ℕ)) → All (λ cell. 3 * (cell_room cell + 2) ≤ room) cells → 3 * needs (take n (drop from cells)) ≤ n * room
thrice-few room n from cells all =
    omega (
      arith,
      thrice-below room (take n (drop from cells)) (All-take (λ cell. 3 * (cell_room cell + 2) ≤ room) n (drop from cells) (All-drop (λ cell. 3 * (cell_room cell + 2) ≤ room) from cells all)),
      mul-le-mul_left room (few n (drop from cells)),
    )
  where
    few : (n : ℕ) (xs : List (List ℕ)) → length (take n xs) ≤ n
    few n xs = omega (arith, length-take n xs)

module _ (cells : List (List ℕ)) (room : ℕ) (wide : 300 < room) (all : All (λ cell. 3 * (cell_room cell + 2) ≤ room) cells) where
  two-cells : (first : ℕ) (s : Share) → room ≤ first + 100 → IsFilled cells first s → s.from + 1 < s.to
  two-cells first s less full =
      elim (cases_lt 1 (s.to - s.from)) [
        | inl more ↦ omega arith
        | inr few ↦ absurd (omega (arith, thrice-few room (s.to - s.from + 1) s.from cells all, mul-le-mul_left room (two few)))
      ]
    where
      two : s.to - s.from ≤ 1 → s.to - s.from + 1 ≤ 2
      two few = omega arith

  pub filled-dividers : (first : ℕ) (shares : List Share) → room ≤ first + 100 → AreFilled cells 1 room first shares → HaveDividers 1 shares
  filled-dividers first [] less filled = tt
  filled-dividers first (last ∷ []) less filled = tt
  filled-dividers first (s ∷ t ∷ []) less filled =
      elim filled.full [
        | inl both ↦ (both.0, tt)
        | inr full ↦ (two-cells first s less full, tt)
      ]
  filled-dividers first (s ∷ t ∷ u ∷ rest) less filled = (two-cells first s less filled.0, filled-dividers room (t ∷ u ∷ rest) (omega arith) filled.1)

pub dividers-in_order : (kind : PageKind) (usable first_usable : ℕ) (cells : List (List ℕ)) (shares : List Share) → IsUsable usable → (first_usable ≡ usable) ⊎ (first_usable + 100 ≡ usable)
    → 1 ≤ risen kind → All (IsOneCell kind usable) cells → AreFilled cells (risen kind) (page_room kind usable) (page_room kind first_usable) shares → HaveDividers (risen kind) shares
dividers-in_order TableLeaf usable first_usable cells shares sizes first up all filled = absurd (omega arith)
dividers-in_order TableInterior usable first_usable cells shares sizes first up all filled =
    filled-dividers cells (page_room TableInterior usable) (omega (arith, sizes.least)) (λ k d low. cell-need TableInterior usable (get_or cells k d) sizes (all k d low))
    (page_room TableInterior first_usable) shares (elim first [ inl same ↦ omega arith | inr less ↦ omega arith ]) filled
dividers-in_order IndexLeaf usable first_usable cells shares sizes first up all filled =
    filled-dividers cells (page_room IndexLeaf usable) (omega (arith, sizes.least)) (λ k d low. cell-need IndexLeaf usable (get_or cells k d) sizes (all k d low))
    (page_room IndexLeaf first_usable) shares (elim first [ inl same ↦ omega arith | inr less ↦ omega arith ]) filled
dividers-in_order IndexInterior usable first_usable cells shares sizes first up all filled =
    filled-dividers cells (page_room IndexInterior usable) (omega (arith, sizes.least)) (λ k d low. cell-need IndexInterior usable (get_or cells k d) sizes (all k d low))
    (page_room IndexInterior first_usable) shares (elim first [ inl same ↦ omega arith | inr less ↦ omega arith ]) filled
