-- The cells of a page fit behind its array of places: crates above cite this fact in their proofs.
use Rattle.std.proofs.Common.{◌≡◌, ℕ, zero, suc, ◌+◌, ◌-◌, ◌*◌, ◌<◌, ◌≤◌, ◌⊎◌, List, [], ◌∷◌, length, min, max, slice_index_or, sum_by, refl, sym, ap, ap₂, ◌∙◌, inl, inr, arith}
use Rattle.std.proofs.lemmas.Bool.{cases_lt}
use Rattle.std.proofs.lemmas.Bool.Decides.{nat_tests}
use Rattle.std.proofs.lemmas.List.Sums.{sum_by-cons}
use Rattle.format_spec.specs.declared.PageKind.TheVariants.{IndexInterior, TableInterior, IndexLeaf, TableLeaf}
use Rattle.format_spec.specs.declared.PageKind.{PageKind}
use Rattle.format_spec.specs.Page.{IsPage, AreApart, header_place, header_length, array_place, cell_place, cell_room}
use Rattle.format_spec.specs.Sizes.{IsUsable}
use Rattle.page_spec.specs.Rooms.{array_end, rooms}

-- 1 for a byte that is one of so many from a place on, and 0 for every other
abbrev taken : ℕ → ℕ → ℕ → ℕ
taken place size byte = min (byte + 1) (place + size) - max byte place

-- a sum over the bytes below a place
abbrev over_bytes : (ℕ → ℕ) → ℕ → ℕ
over_bytes f zero = 0
over_bytes f (suc n) = f n + over_bytes f n

-- a sum over the first indexes
abbrev over_cells : (ℕ → ℕ) → ℕ → ℕ
over_cells f zero = 0
over_cells f (suc n) = f 0 + over_cells (λ k. f (suc k)) n

-- the bytes that one cell takes
over_bytes-taken : (place size n : ℕ) → over_bytes (taken place size) n ≡ min size (n - place)
over_bytes-taken place size zero = omega arith
over_bytes-taken place size (suc n) = omega (arith, over_bytes-taken place size n)

over_bytes-sum : (f g : ℕ → ℕ) (n : ℕ) → over_bytes (λ x. f x + g x) n ≡ over_bytes f n + over_bytes g n
over_bytes-sum f g zero = refl
over_bytes-sum f g (suc n) = omega (arith, over_bytes-sum f g n)

over_bytes-none : (n : ℕ) → over_bytes (λ x. 0) n ≡ 0
over_bytes-none zero = refl
over_bytes-none (suc n) = omega (arith, over_bytes-none n)

-- how many of the first cells take a byte
abbrev cover : (ℕ → ℕ) → (ℕ → ℕ) → ℕ → ℕ → ℕ
cover place size n byte = over_cells (λ k. taken (place k) (size k) byte) n

-- counted by bytes, the cells take what they take counted by cells
cover-counted : (place size : ℕ → ℕ) (n end : ℕ) → ((k : ℕ) → k < n → place k + size k ≤ end) → over_bytes (cover place size n) end ≡ over_cells size n
cover-counted place size zero end inside = over_bytes-none end
cover-counted place size (suc n) end inside =
    over_bytes-sum (taken (place 0) (size 0)) (cover (λ k. place (suc k)) (λ k. size (suc k)) n) end
    ∙ ap₂ (λ (x y : ℕ). x + y) (over_bytes-taken (place 0) (size 0) end ∙ omega (arith, inside 0 (omega arith)))
    (cover-counted (λ k. place (suc k)) (λ k. size (suc k)) n end (λ k low. inside (suc k) (omega arith)))

-- a byte that no cell takes
cover-none : (place size : ℕ → ℕ) (n byte : ℕ) → ((k : ℕ) → k < n → taken (place k) (size k) byte ≡ 0) → cover place size n byte ≡ 0
cover-none place size zero byte none = refl
cover-none place size (suc n) byte none =
    omega (arith, none 0 (omega arith), cover-none (λ k. place (suc k)) (λ k. size (suc k)) n byte (λ k low. none (suc k) (omega arith)))

-- two that are apart do not take one byte
taken-apart : (p m q n byte : ℕ) → AreApart p m q n → 0 < taken p m byte → taken q n byte ≡ 0
taken-apart p m q n byte (inl before) some = omega arith
taken-apart p m q n byte (inr behind) some = omega arith

-- a byte is taken once at most
cover-once : (place size : ℕ → ℕ) (n byte : ℕ) → ((j k : ℕ) → j < k → k < n → AreApart (place j) (size j) (place k) (size k)) → cover place size n byte ≤ 1
cover-once place size zero byte apart = omega arith
cover-once place size (suc n) byte apart =
    let rest = cover-once (λ k. place (suc k)) (λ k. size (suc k)) n byte (λ j k l h. apart (suc j) (suc k) (omega arith) (omega arith)) in
    elim (cases_lt 0 (taken (place 0) (size 0) byte)) [
      | inl some ↦ omega (
        arith,
        cover-none (λ k. place (suc k)) (λ k. size (suc k)) n byte
            (λ k low. taken-apart (place 0) (size 0) (place (suc k)) (size (suc k)) byte (apart 0 (suc k) (omega arith) (omega arith)) some),
      )
      | inr none ↦ omega (arith, rest)
    ]

-- what takes bytes from a place on takes no more than there are
over_bytes-few : (f : ℕ → ℕ) (from n : ℕ) → ((x : ℕ) → f x ≤ 1) → ((x : ℕ) → x < from → f x ≡ 0) → over_bytes f n ≤ n - from
over_bytes-few f from zero few none = omega arith
over_bytes-few f from (suc n) few none =
    elim (cases_lt n from) [
      | inl before ↦ omega (arith, none n before, over_bytes-few f from n few none)
      | inr behind ↦ omega (arith, few n, over_bytes-few f from n few none)
    ]

-- cells that lie apart between two places fit there
spans_fit : (place size : ℕ → ℕ) (n from end : ℕ) → ((k : ℕ) → k < n → (from ≤ place k) × (place k + size k ≤ end))
    → ((j k : ℕ) → j < k → k < n → AreApart (place j) (size j) (place k) (size k)) → over_cells size n ≤ end - from
spans_fit place size n from end inside apart =
    omega (
      arith,
      cover-counted place size n end (λ k low. (inside k low).1),
      over_bytes-few (cover place size n) from end (λ x. cover-once place size n x apart)
          (λ x before. cover-none place size n x (λ k low. let low_end : from ≤ place k = (inside k low).0 in omega arith)),
    )

rooms-over_cells : (cells : List (List ℕ)) → rooms cells ≡ over_cells (λ k. cell_room (slice_index_or cells k [])) (length cells)
rooms-over_cells [] = refl
rooms-over_cells (cell ∷ cells) = sum_by-cons cell_room cell cells ∙ ap (λ (n : ℕ). cell_room cell + n) (rooms-over_cells cells)

-- a page's header ends within the usable bytes
array_place-most : (number : ℕ) (kind : PageKind) → array_place number kind ≤ 112
array_place-most number kind = omega (arith, header number, long kind)
  where
    header : (n : ℕ) → header_place n ≤ 100
    header n = grind (arith, nat_tests)

    long : (k : PageKind) → header_length k ≤ 12
    long TableLeaf = omega arith
    long TableInterior = omega arith
    long IndexLeaf = omega arith
    long IndexInterior = omega arith

-- the array of places ends within the usable bytes
pub array-fits : (page : List ℕ) (number usable : ℕ) (kind : PageKind) (cells : List (List ℕ)) (right : ℕ) → IsUsable usable
    → IsPage page number usable kind cells right → array_end number kind (length cells) ≤ usable
array-fits page number usable kind cells right fits is =
    elim (cases_lt 0 (length cells)) [
      | inl some ↦ let first = is.each 0 some in omega (arith, first.behind_array, first.inside)
      | inr none ↦ omega (arith, fits.least, array_place-most number kind)
    ]

-- the cells of a page fit between its array of places and the end of its usable bytes
pub rooms-fit : (page : List ℕ) (number usable : ℕ) (kind : PageKind) (cells : List (List ℕ)) (right : ℕ) → IsUsable usable
    → IsPage page number usable kind cells right → array_end number kind (length cells) + rooms cells ≤ usable
rooms-fit page number usable kind cells right fits is =
    let fit = spans_fit (cell_place page number kind) (λ k. cell_room (slice_index_or cells k [])) (length cells) (array_end number kind (length cells)) usable
    (λ k low. ((is.each k low).behind_array, (is.each k low).inside)) is.apart in
    omega (arith, array-fits page number usable kind cells right fits is, fit, rooms-over_cells cells)
