-- Cells of pages whose rowids rise are no more than the pages hold.
use Rattle.std.proofs.Common.{◌≡◌, ℕ, ℤ, pos, ◌+◌, ◌-◌, ◌*◌, ◌/◌, ◌==◌, ◌<◌, ◌≤◌, ◌<ℤ◌, ◌≤ℤ◌, false, List, [], ◌∷◌, length, map, slice_get, sym, ap, ap₂, ◌∙◌, subst, arith}
use Rattle.std.proofs.Math.Nat.{mul-le-mul_right}
use Rattle.std.specs.List.{AllByRecursion, IsDistinct}
use Rattle.std.proofs.lemmas.Bool.{ne_eqb}
use Rattle.std.proofs.lemmas.Int.{ints}
use Rattle.std.proofs.lemmas.Nat.{le-div, div-mul-add}
use Rattle.std.proofs.lemmas.List.{length-map}
use Rattle.std.proofs.lemmas.List.Sums.{sum_by-cons}
use Rattle.format_spec.specs.declared.CellView.{CellView}
use Rattle.format_spec.specs.Page.{cell_room}
use Rattle.format_spec.specs.Sizes.{IsUsable}
use Rattle.page_layout.specs.Views.{HasViews}
use Rattle.page_spec.specs.CountsLaws.{distinct-once, few-once, times-all}
use Rattle.page_spec.specs.Rooms.{rooms}
use Rattle.page_spec.specs.RoomsLaws.{rooms-fit}
use Rattle.tree_spec.specs.Standing.{Sizes, Paged}
use Rattle.tree_walk.specs.Courses.{Spot}
use Rattle.tree_walk.specs.Lengths.{most_cells}
use Rattle.tree_walk.specs.Places.{rowid_or}
use Rattle.tree_walk.proofs.TreeFacts.{views-one}
use Rattle.tree_walk.proofs.Existing.{rowid_of, IsCellOf, AreRising}

-- each cell takes four bytes at least
rooms-least : (cells : List (List ℕ)) → length cells * 4 ≤ rooms cells
rooms-least [] = omega arith
rooms-least (cell ∷ cells) = omega (arith, sum_by-cons cell_room cell cells, rooms-least cells)

-- a page has no more cells than a sixth of its bytes
page-few : (bytes : List ℕ) (number usable : ℕ) (views : List CellView) → IsUsable usable → HasViews bytes number usable views → length views ≤ usable / 6
page-few bytes number usable views fits has =
    le-div (length views) usable 6 (omega arith)
    (omega (arith, has.many, rooms-least has.cells, rooms-fit bytes number usable has.kind has.cells has.right fits has.is_page))

module _ (sizes : Sizes) (base : Paged) (fits : IsUsable sizes.usable) where
  abbrev each_page : ℕ
  each_page = sizes.usable / 6

  -- a number for a cell, from 1 on
  abbrev code : Spot → ℕ
  code spot = (spot.page.number - 1) * each_page + spot.at + 1

  its_index : (spot : Spot) → IsCellOf sizes base spot → spot.at < each_page
  its_index spot is = let few = page-few (base.pages spot.page.number) spot.page.number sizes.usable spot.page.views fits is.has_views in omega (arith, few, is.low)

  code-within : (spot : Spot) → IsCellOf sizes base spot → code spot ≤ most_cells sizes base.count
  code-within spot is =
      let before : (spot.page.number - 1) + 1 ≤ base.count = omega (arith, is.first, is.within) in
      let upto : (spot.page.number - 1 + 1) * each_page ≤ base.count * each_page = mul-le-mul_right each_page before in
      let one_more : (spot.page.number - 1 + 1) * each_page ≡ (spot.page.number - 1) * each_page + each_page = add_one (spot.page.number - 1) each_page in
      omega (arith, upto, one_more, its_index spot is)
    where
      add_one : (m n : ℕ) → (m + 1) * n ≡ m * n + n
      add_one m n = omega arith

  -- cells of one number are one
  code-one : (a b : Spot) → IsCellOf sizes base a → IsCellOf sizes base b → code a ≡ code b → rowid_of a ≡ rowid_of b
  code-one a b one two same =
      let k = a.page.number - 1 in
      let l = b.page.number - 1 in
      let sum : k * each_page + a.at ≡ l * each_page + b.at = omega (arith, same) in
      let page : k ≡ l = sym (div-mul-add k each_page a.at (its_index a one)) ∙ ap (λ (n : ℕ). n / each_page) sum ∙ div-mul-add l each_page b.at (its_index b two) in
      let number : a.page.number ≡ b.page.number = omega (arith, page, one.first, two.first) in
      let at : a.at ≡ b.at = omega (arith, sum, ap (λ (n : ℕ). n * each_page) page) in
      let views : a.page.views ≡ b.page.views =
      views-one (base.pages b.page.number) b.page.number sizes.usable a.page.views b.page.views (subst (λ (n : ℕ). HasViews (base.pages n) n sizes.usable a.page.views) number one.has_views) two.has_views in
      ap₂ (λ (v : List CellView) (i : ℕ). rowid_or (pos 0) (slice_get v i)) views at

  -- a cell is none of those with greater rowids
  apart : (spot : Spot) → IsCellOf sizes base spot → (low : ℤ) → rowid_of spot ≤ℤ low → (rest : List Spot) → AreRising sizes base low rest → AllByRecursion (λ (y : ℕ). (code spot == y) ≡ false) (map code rest)
  apart spot is low below [] rising = tt
  apart spot is low below (next ∷ rest) rising =
      let above = rising.rises.0 in (
        ne_eqb (code spot) (code next) (λ same. let equal = code-one spot next is rising.each.0 same in less spot next low below above equal),
        apart spot is (rowid_of next) (omega (arith, ints, below, above)) rest (record { each = rising.each.1; rises = rising.rises.1 }),
      )
    where
      less : (a b : Spot) (bound : ℤ) → rowid_of a ≤ℤ bound → bound <ℤ rowid_of b → rowid_of a ≡ rowid_of b → ⊥
      less a b bound le lt equal = strict (rowid_of a) (rowid_of b) equal (omega (arith, ints, le, lt))
        where
          strict : (x y : ℤ) → x ≡ y → x <ℤ y → ⊥
          strict x y same lt = let again : y <ℤ y = subst (λ (z : ℤ). z <ℤ y) same lt in omega (arith, ints, again)

  distinct : (low : ℤ) (spots : List Spot) → AreRising sizes base low spots → IsDistinct (λ (x y : ℕ). x == y) (map code spots)
  unfolding IsDistinct
  distinct low [] rising = tt
  distinct low (spot ∷ spots) rising =
      let rest : AreRising sizes base (rowid_of spot) spots = record { each = rising.each.1; rises = rising.rises.1 } in
      (apart spot rising.each.0 (rowid_of spot) (omega (arith, ints)) spots rest, distinct (rowid_of spot) spots rest)

  all-within : (spots : List Spot) → AllByRecursion (IsCellOf sizes base) spots → AllByRecursion (λ (n : ℕ). (0 < n) × (n ≤ most_cells sizes base.count)) (map code spots)
  all-within [] each = tt
  all-within (spot ∷ spots) each = ((omega arith, code-within spot each.0), all-within spots each.1)

  -- the cells are no more than the pages hold
  pub rising-few : (low : ℤ) (spots : List Spot) → AreRising sizes base low spots → length spots ≤ most_cells sizes base.count
  rising-few low spots rising =
      omega (
        arith,
        length-map spots code,
        few-once (map code spots) (most_cells sizes base.count) (distinct-once (map code spots) (distinct low spots rising))
            (λ n some. times-all (λ (m : ℕ). (0 < m) × (m ≤ most_cells sizes base.count)) n (map code spots) (all-within spots rising.each) some),
      )
