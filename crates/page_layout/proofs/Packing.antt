-- Cells that are measured and laid one after the other.
use Rattle.std.proofs.Common.{◌≡◌, ℕ, ◌+◌, ◌<◌, ◌≤◌, ◌⊎◌, List, [], ◌∷◌, ◌++◌, true, false, nat_le, length, max, min, take, slice_index_or, get_or, refl, sym, ap, ◌∙◌, subst, inl, inr, append_assoc, arith}
use Rattle.std.proofs.Math.Path.{subst⁻¹}
use Rattle.std.specs.List.{insert}
use Rattle.std.proofs.lemmas.Bool.{cases_lt}
use Rattle.std.proofs.lemmas.Bool.Decides.{nat_tests}
use Rattle.std.proofs.lemmas.List.{take_more, take_all, get_or_default}
use Rattle.std.proofs.lemmas.List.Edits.{insert_end}
use Rattle.std.proofs.lemmas.List.Sums.{sum_by_push, sum_by-take-le}
use Rattle.format_spec.specs.declared.PageKind.{PageKind}
use Rattle.format_spec.specs.declared.PageKind.TheVariants.{IndexInterior, TableInterior, IndexLeaf, TableLeaf}
use Rattle.format_spec.specs.Page.{IsPage, RightChild, cell_count, cell_place, cell_room}
use Rattle.format_spec.specs.Sizes.{IsUsable}
use Rattle.page_spec.specs.Rooms.{array_end, rooms, HasNoHole, KeepsRest, right_kept}
use Rattle.page_spec.specs.RoomsLaws.{rooms-fit}
use Rattle.page_layout.specs.declared.put.Layout.{Layout}
use Rattle.page_layout.specs.Measuring.{IsMeasured}
use Rattle.page_layout.specs.Views.{HasKind}
use Rattle.page_layout.specs.ViewsLaws.{kind_byte-same}
use Rattle.page_layout.specs.Written.{IsLaid}

-- the cells up to one more
take-one_more : (cells : List (List ℕ)) (i : ℕ) (x : List ℕ) → i < length cells → x ≡ get_or cells i x → take (i + 1) cells ≡ take i cells ++ x ∷ []
take-one_more cells i x inside is = take_more cells i x inside ∙ ap (λ (y : List ℕ). take i cells ++ y ∷ []) (sym is)

-- one cell more behind those that were put
pub IsLaid-one_more : (page : List ℕ) (layout : Layout) (before cells : List (List ℕ)) (right i : ℕ) (x : List ℕ) (count : ℕ) → i < length cells → x ≡ get_or cells i x → count ≡ length (before ++ take i cells)
    → IsLaid page layout (insert (before ++ take i cells) count x) right → IsLaid page layout (before ++ take (i + 1) cells) right
IsLaid-one_more page layout before cells right i x count inside is counts laid =
    let P : List (List ℕ) → Type 0 = λ all. IsLaid page layout all right in
    let all = ap (λ (n : ℕ). insert (before ++ take i cells) n x) counts ∙ insert_end (before ++ take i cells) x ∙ append_assoc before (take i cells) (x ∷ [])
    ∙ ap (λ (behind : List (List ℕ)). before ++ behind) (sym (take-one_more cells i x inside is)) in
    subst P all laid

pub rooms-one_more : (cells : List (List ℕ)) (i : ℕ) (x : List ℕ) → i < length cells → x ≡ get_or cells i x → rooms (take (i + 1) cells) ≡ rooms (take i cells) + cell_room x
rooms-one_more cells i x inside is = ap rooms (take-one_more cells i x inside is) ∙ sum_by_push cell_room (take i cells) x

-- the room of one cell more, of which the size is known; it fits behind the array, with those before it
pub rooms-one_more_fits : (page : List ℕ) (number usable : ℕ) (kind : PageKind) (cells : List (List ℕ)) (right : ℕ) → IsUsable usable → IsPage page number usable kind cells right
    → (i size : ℕ) → i < length cells → size ≡ length (slice_index_or cells i [])
    → (rooms (take (i + 1) cells) ≡ rooms (take i cells) + max 4 size) × (array_end number kind (length cells) + rooms (take (i + 1) cells) ≤ usable)
rooms-one_more_fits page number usable kind cells right fits is i size low size_is =
    let x = slice_index_or cells i [] in
    let more_room : rooms (take (i + 1) cells) ≡ rooms (take i cells) + cell_room x = rooms-one_more cells i x low (get_or_default cells i [] x low) in (
      omega (arith, more_room, size_is),
      omega (arith, rooms-fit page number usable kind cells right fits is, sum_by-take-le cell_room cells (i + 1)),
    )

-- the least of the first places, or the end of the usable bytes where there are none
pub record IsLowest (place : ℕ → ℕ) (usable n lowest : ℕ) : Type 0 where
  pub low : (k : ℕ) → k < n → lowest ≤ place k
  pub met : (lowest ≡ usable) ⊎ ((k : ℕ) × (k < n) × (lowest ≡ place k))

pub IsLowest-none : (place : ℕ → ℕ) (usable : ℕ) → IsLowest place usable 0 usable
IsLowest-none place usable = record { low = λ k h. absurd (omega arith); met = inl refl }

pub IsLowest-one_more : (place : ℕ → ℕ) (usable i lowest found next : ℕ) → found ≡ place i → next ≡ min lowest found → IsLowest place usable i lowest → IsLowest place usable (i + 1) next
IsLowest-one_more place usable i lowest found next at is was = record {
  low = λ k h. elim (cases_lt k i) [
    | inl below ↦ omega (arith, was.low k below, is)
    | inr not_below ↦ let here : i ≡ k = omega arith in omega (arith, at, is, ap place here)
  ];
  met = elim (cases_lt lowest found) [
    | inl less ↦ elim was.met [ inl none ↦ inl (omega (arith, is, none)) | inr some ↦ inr (some.0, omega (arith, some.1), omega (arith, is, some.2)) ]
    | inr not_less ↦ inr (i, omega arith, omega (arith, is, at))
  ];
}

-- all cells of a page were read, by the kind that was found
pub record AreRead (page : List ℕ) (number usable : ℕ) (found kind : PageKind) (cells : List (List ℕ)) (right i lowest : ℕ) : Type 0 where
  pub same : found ≡ kind
  pub there : IsPage page number usable found cells right
  pub all : i ≡ length cells
  pub front : take i cells ≡ cells
  pub low : IsLowest (cell_place page number kind) usable (length cells) lowest

pub AreRead-at_end : (page : List ℕ) (number usable : ℕ) (found kind : PageKind) (cells : List (List ℕ)) (right i lowest count : ℕ) → IsPage page number usable kind cells right → HasKind page number found
    → count ≡ cell_count page number → count ≤ i → i ≤ count → IsLowest (cell_place page number found) usable i lowest → AreRead page number usable found kind cells right i lowest
AreRead-at_end page number usable found kind cells right i lowest count is has counts most least low =
    let same : found ≡ kind = kind_byte-same found kind (sym has ∙ is.kind_is) in
    let all : i ≡ length cells = omega (arith, counts, is.count) in
    record {
      same = same;
      there = subst⁻¹ (λ (k : PageKind). IsPage page number usable k cells right) same is;
      all = all;
      front = take_all i cells (omega arith);
      low = subst (λ (n : ℕ). IsLowest (cell_place page number kind) usable n lowest) all (subst (λ (k : PageKind). IsLowest (cell_place page number k) usable i lowest) same low);
    }

-- what is known once each cell was measured
module _ (page : List ℕ) (number usable : ℕ) (kind : PageKind) (cells : List (List ℕ)) (layout : Layout) (lowest : ℕ) (number_is : layout.number ≡ number) (usable_is : layout.usable ≡ usable) (kind_is : layout.kind ≡ kind)
    (count : layout.count ≡ length cells) (fits : layout.bottom + rooms cells ≡ usable) (is : IsLowest (cell_place page number kind) usable (length cells) lowest) where
  HasNoHole-lowest : layout.bottom ≤ lowest → HasNoHole page number usable kind cells
  HasNoHole-lowest above k low = omega (arith, is.low k low)

  HasNoHole-not_below : lowest < layout.bottom → HasNoHole page number usable kind cells → ⊥
  HasNoHole-not_below below none = elim is.met [ inl end ↦ omega arith | inr some ↦ let at = none some.0 some.1 in omega (arith, at, some.2) ]

  nat_le-true : (a b : ℕ) → nat_le a b ≡ true → a ≤ b
  nat_le-true a b e = grind (arith, nat_tests)

  nat_le-false : (a b : ℕ) → nat_le a b ≡ false → b < a
  nat_le-false a b e = grind (arith, nat_tests)

  pub IsMeasured-lowest : IsMeasured page number usable kind cells (record { layout = layout; packed = nat_le layout.bottom lowest })
  IsMeasured-lowest = record {
    number_is = number_is;
    usable_is = usable_is;
    kind_is = kind_is;
    count = count;
    bottom = fits;
    packed = λ e. HasNoHole-lowest (nat_le-true layout.bottom lowest e);
    loose = λ e. HasNoHole-not_below (nat_le-false layout.bottom lowest e);
  }

-- a fact about the number, the usable bytes and the kind of a layout that are known
pub layout-to_known : (P : ℕ → ℕ → PageKind → Type 0) (layout : Layout) (number usable : ℕ) (kind : PageKind) → layout.number ≡ number → layout.usable ≡ usable → layout.kind ≡ kind
    → P layout.number layout.usable layout.kind → P number usable kind
layout-to_known P layout number usable kind n u k p =
    subst (λ (x : PageKind). P number usable x) k (subst (λ (x : ℕ). P number x layout.kind) u (subst (λ (x : ℕ). P x layout.usable layout.kind) n p))

-- and the other way round
pub layout-from_known : (P : ℕ → ℕ → PageKind → Type 0) (layout : Layout) (number usable : ℕ) (kind : PageKind) → layout.number ≡ number → layout.usable ≡ usable → layout.kind ≡ kind
    → P number usable kind → P layout.number layout.usable layout.kind
layout-from_known P layout number usable kind n u k p =
    subst⁻¹ (λ (x : ℕ). P x layout.usable layout.kind) n (subst⁻¹ (λ (x : ℕ). P number x layout.kind) u (subst⁻¹ (λ (x : PageKind). P number usable x) k p))

-- a page's right child is the one that it keeps
pub right-kept : (kind : PageKind) (page : List ℕ) (header right : ℕ) → RightChild kind page header right → right_kept kind right ≡ right
right-kept TableLeaf page header right is = sym is
right-kept TableInterior page header right is = refl
right-kept IndexLeaf page header right is = sym is
right-kept IndexInterior page header right is = refl

pub KeepsRest-then : (number usable : ℕ) (a b c : List ℕ) → KeepsRest number usable a b → KeepsRest number usable b c → KeepsRest number usable a c
KeepsRest-then number usable a b c first second k apart = second k apart ∙ first k apart
