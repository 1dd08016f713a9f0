-- A page without a hole out of which a cell was taken is a written page without that cell.
use Rattle.std.proofs.Common.{◌≡◌, ℕ, ◌+◌, ◌-◌, ◌*◌, ◌%◌, ◌<◌, ◌≤◌, ◌⊎◌, List, [], length, slice_index, slice_index_or, refl, sym, ap, ◌∙◌, subst, inl, inr, arith}
use Rattle.std.proofs.Math.Path.{subst⁻¹}
use Rattle.std.specs.List.{remove, CopiedTo, SameBelow, SameFrom}
use Rattle.std.proofs.lemmas.Bool.{cases_lt}
use Rattle.std.proofs.lemmas.List.Edits.{length-remove, get_or-remove_below, get_or-remove_above}
use Rattle.std.proofs.lemmas.List.Sums.{sum_by-remove}
use Rattle.byte_fields.specs.Bytes.{part_of}
use Rattle.byte_fields.specs.Numbers.{number_at, with_number_at}
use Rattle.format_spec.specs.declared.PageKind.{PageKind}
use Rattle.format_spec.specs.Page.{IsPage, IsCellAt, AreApart, header_place, array_place, cell_place, cell_room}
use Rattle.page_spec.specs.PlacesLaws.{number_at-same, part_of-same}
use Rattle.page_spec.specs.Rooms.{array_end, rooms, HasNoHole, IsWritten}
use Rattle.page_layout.specs.Taken.{Moves, MovesPlaces, DropsPlace, TakesCell}
use Rattle.page_layout.specs.Written.{PutsCounts}
use Rattle.page_layout.proofs.Clearing.{Writes-with_number_at}
use Rattle.page_layout.proofs.Inserting.{right_child-same}

moves-same : (place by x y a b : ℕ) → x ≡ a → y ≡ b → Moves place by x y → Moves place by a b
moves-same place by x y a b e f (inl low) = inl (omega (arith, low.0), omega (arith, low.1))
moves-same place by x y a b e f (inr high) = inr (omega (arith, high.0), omega (arith, high.1))

-- one place more of an array, moved up
pub Moves-one_more : (old before after : List ℕ) (array count place by i found next : ℕ) → i < count → array + 2 * count ≤ length old → length before ≡ length old → next < 65536
    → ((k : ℕ) → k < i → Moves place by (number_at (array + 2 * k) 2 old) (number_at (array + 2 * k) 2 before))
    → ((k : ℕ) → (k < array) ⊎ (array + 2 * i ≤ k) → slice_index before k ≡ slice_index old k)
    → found ≡ number_at (array + 2 * i) 2 before → Moves place by found next → after ≡ with_number_at (array + 2 * i) 2 next before
    → ((k : ℕ) → k < i + 1 → Moves place by (number_at (array + 2 * k) 2 old) (number_at (array + 2 * k) 2 after))
    × ((k : ℕ) → (k < array) ⊎ (array + 2 * (i + 1) ≤ k) → slice_index after k ≡ slice_index old k)
Moves-one_more old before after array count place by i found next low room long small was rest at moves is =
    let w = Writes-with_number_at (array + 2 * i) 2 next before after (omega arith) (omega arith) is in (
      λ k h. elim (cases_lt k i) [
        | inl below ↦ moves-same place by _ _ _ _ refl (sym (number_at-same 2 after (array + 2 * k) before (array + 2 * k) (λ j h2. w.other (array + 2 * k + j) (inl (omega arith))))) (was k below)
        | inr not_below ↦
            let here : i ≡ k = omega arith in
            let old_here = number_at-same 2 before (array + 2 * i) old (array + 2 * i) (λ j h2. rest (array + 2 * i + j) (inr (omega arith))) in
            subst (λ (n : ℕ). Moves place by (number_at (array + 2 * n) 2 old) (number_at (array + 2 * n) 2 after)) here
            (moves-same place by found next _ _ (at ∙ old_here) (sym w.here) moves)
      ],
      λ k apart. others k apart,
    )
  where
    others : (k : ℕ) → (k < array) ⊎ (array + 2 * (i + 1) ≤ k) → slice_index after k ≡ slice_index old k
    others k (inl front) = (Writes-with_number_at (array + 2 * i) 2 next before after (omega arith) (omega arith) is).other k (inl (omega arith)) ∙ rest k (inl front)
    others k (inr behind) = (Writes-with_number_at (array + 2 * i) 2 next before after (omega arith) (omega arith) is).other k (inr (omega arith)) ∙ rest k (inr (omega arith))

-- an array whose last places moved down over one
pub DropsPlace-from_copy : (old new : List ℕ) (array count at : ℕ) → at < count → length new ≡ length old
    → CopiedTo old new (array + 2 * at + 2) (array + 2 * at) (array + 2 * count - (array + 2 * at + 2)) → SameBelow old new (array + 2 * at)
    → SameFrom old new (array + 2 * at + (array + 2 * count - (array + 2 * at + 2))) → DropsPlace old new array count at
DropsPlace-from_copy old new array count at inside long copied below from = record {
  long = long;
  moved = λ k low high j small.
      let index : array + 2 * at + 2 + (array + 2 * k + j - (array + 2 * at)) ≡ array + 2 * (k + 1) + j = omega arith in
      copied (array + 2 * k + j) 0 (omega arith) (omega arith) ∙ ap (slice_index old) index;
  in_front = λ k low. below k 0 low;
  behind = λ k high. from k 0 (omega arith);
}

-- cells that moved up, their places, the place that went, and the numbers in the header
pub TakesCell-from_parts : (old a b c new : List ℕ) (header array count at bottom place room : ℕ) → at < count → header + 8 ≤ array → array + 2 * count ≤ bottom → bottom ≤ place
    → length a ≡ length old → CopiedTo old a bottom (bottom + room) (place - bottom) → SameBelow old a (bottom + room) → SameFrom old a (bottom + room + (place - bottom))
    → MovesPlaces a b array count place room → DropsPlace b c array count at → PutsCounts c new header (count - 1) (bottom + room)
    → TakesCell old new header array count at bottom place room
TakesCell-from_parts old a b c new header array count at bottom place room inside front fits order long copied below from moves drops counts =
    let behind_header = λ (k : ℕ) (high : header + 8 ≤ k). counts.rest k (inr high) in
    let old_place = λ (k : ℕ) (low : k < count). number_at-same 2 a (array + 2 * k) old (array + 2 * k) (λ j small. below (array + 2 * k + j) 0 (omega arith)) in
    let behind_array = λ (k : ℕ) (high : array + 2 * count ≤ k). behind_header k (omega arith) ∙ drops.behind k high ∙ moves.rest k (inr high) in
    record {
      long = counts.long ∙ drops.long ∙ moves.long ∙ long;
      in_front = λ k low.
          moves-same place room _ _ _ _ (old_place k (omega arith))
          (sym (number_at-same 2 new (array + 2 * k) b (array + 2 * k) (λ j small. behind_header (array + 2 * k + j) (omega arith) ∙ drops.in_front (array + 2 * k + j) (omega arith))))
          (moves.moves k (omega arith));
      above = λ k low high.
          moves-same place room _ _ _ _ (old_place (k + 1) high)
          (sym (number_at-same 2 new (array + 2 * k) b (array + 2 * (k + 1)) (λ j small. behind_header (array + 2 * k + j) (omega arith) ∙ drops.moved k low high j small)))
          (moves.moves (k + 1) high);
      moved = λ k low high.
          let index : bottom + (k + room - (bottom + room)) ≡ k = omega arith in
          behind_array (k + room) (omega arith) ∙ copied (k + room) 0 (omega arith) (omega arith) ∙ ap (slice_index old) index;
      behind = λ k high. behind_array k (omega arith) ∙ from k 0 (omega arith);
      front = λ k low. counts.rest k (inl low) ∙ drops.in_front k (omega arith) ∙ moves.rest k (inl (omega arith)) ∙ below k 0 (omega arith);
      no_freeblock = counts.no_freeblock;
      counts = omega (arith, counts.counts);
      content = counts.content;
      no_fragment = counts.no_fragment;
      rest = λ k low high. behind_header k low ∙ drops.in_front k (omega arith) ∙ moves.rest k (inl high) ∙ below k 0 (omega arith);
    }

-- the same, with all numbers known by other names
pub TakesCell-same_numbers : (old new : List ℕ) (at header length_of count bottom place room h l n b p r : ℕ) → header ≡ h → length_of ≡ l → count ≡ n → bottom ≡ b → place ≡ p → room ≡ r
    → TakesCell old new header (header + length_of) count at bottom place room → TakesCell old new h (h + l) n at b p r
TakesCell-same_numbers old new at header length_of count bottom place room h l n b p r h_is l_is n_is b_is p_is r_is takes =
    subst (λ (x : ℕ). TakesCell old new h (h + l) n at b p x) r_is
    (subst (λ (x : ℕ). TakesCell old new h (h + l) n at b x room) p_is
    (subst (λ (x : ℕ). TakesCell old new h (h + l) n at x place room) b_is
    (subst (λ (x : ℕ). TakesCell old new h (h + l) x at bottom place room) n_is
    (subst (λ (x : ℕ). TakesCell old new h (h + x) count at bottom place room) l_is
    (subst (λ (x : ℕ). TakesCell old new x (x + length_of) count at bottom place room) h_is takes)))))

module _ (old new : List ℕ) (number usable : ℕ) (kind : PageKind) (cells : List (List ℕ)) (right at : ℕ) (within : usable ≤ length old) (was : IsPage old number usable kind cells right)
    (no_hole : HasNoHole old number usable kind cells) (inside : at < length cells) (fits : array_end number kind (length cells) + rooms cells ≤ usable)
    (takes : TakesCell old new (header_place number) (array_place number kind) (length cells) at (usable - rooms cells) (cell_place old number kind at) (cell_room (slice_index_or cells at []))) where
  abbrev place : ℕ
  place = cell_place old number kind at

  abbrev room : ℕ
  room = cell_room (slice_index_or cells at [])

  abbrev others : List (List ℕ)
  others = remove cells at

  length-others : length others + 1 ≡ length cells
  length-others = length-remove cells at inside

  rooms-others : rooms others + room ≡ rooms cells
  rooms-others = sum_by-remove cell_room cells at [] inside

  -- a cell of the new page that is one of the old page: where it stood in front of the one that went it moved up
  record IsSame (k i : ℕ) : Type 0 where
    low : i < length cells
    cell : slice_index_or others k [] ≡ slice_index_or cells i []
    stands : ((cell_place old number kind i + cell_room (slice_index_or cells i []) ≤ place) × (cell_place new number kind k ≡ cell_place old number kind i + room))
        ⊎ ((place + room ≤ cell_place old number kind i) × (cell_place new number kind k ≡ cell_place old number kind i))

  AreApart-turned : (p m q n : ℕ) → AreApart p m q n → AreApart q n p m
  AreApart-turned p m q n (inl before) = inr before
  AreApart-turned p m q n (inr behind) = inl behind

  Moves-apart : (p m q r s : ℕ) → 4 ≤ m → 4 ≤ s → AreApart p m q s → Moves q s p r → ((p + m ≤ q) × (r ≡ p + s)) ⊎ ((q + s ≤ p) × (r ≡ p))
  Moves-apart p m q r s some also (inl before) (inl low) = inl (before, low.1)
  Moves-apart p m q r s some also (inl before) (inr high) = absurd (omega (arith, before, high.0))
  Moves-apart p m q r s some also (inr behind) (inl low) = absurd (omega (arith, behind, low.0))
  Moves-apart p m q r s some also (inr behind) (inr high) = inr (behind, high.1)

  -- which cell of the old page stands at an index of the new one
  IsSame-source : (k : ℕ) → k < length others → (i : ℕ) × (IsSame k i × (((k < at) × (i ≡ k)) ⊎ ((at ≤ k) × (i ≡ k + 1))))
  IsSame-source k low =
      elim (cases_lt k at) [
        | inl below ↦ (
          k,
          (
            record {
              low = omega arith;
              cell = get_or-remove_below cells at [] k below inside;
              stands = Moves-apart _ _ _ _ _ (omega arith) (omega arith) (was.apart k at below inside) (takes.in_front k below);
            },
            inl (below, refl),
          ),
        )
        | inr above ↦ (
          k + 1,
          (
            record {
              low = omega (arith, length-others);
              cell = get_or-remove_above cells at [] k above inside;
              stands = Moves-apart _ _ _ _ _ (omega arith) (omega arith) (AreApart-turned _ _ _ _ (was.apart at (k + 1) (omega arith) (omega (arith, length-others)))) (takes.above k above (omega (arith, length-others)));
            },
            inr (above, refl),
          ),
        )
      ]

  IsCellAt-same : (k i : ℕ) → k < length others → IsSame k i → IsCellAt new number usable kind (length others) k (slice_index_or others k [])
  IsCellAt-same k i low same =
      let was_at = was.each i same.low in
      let low_end = no_hole i same.low in
      let its_place = cell_place old number kind i in
      let its_cell = slice_index_or cells i [] in
      let end = (was.each at inside).inside in
      let P : List ℕ → Type 0 = λ c. IsCellAt new number usable kind (length others) k c in
      let stood : part_of new (cell_place new number kind k) (length its_cell) ≡ its_cell = elim same.stands [
        | inl up ↦ part_of-same (length its_cell) new (cell_place new number kind k) old its_place (omega (arith, takes.long, up.0, up.1, end)) (omega (arith, was_at.inside)) (λ j small.
            let index : cell_place new number kind k + j ≡ its_place + j + room = omega (arith, up.1) in
            ap (slice_index new) index ∙ takes.moved (its_place + j) (omega (arith, low_end)) (omega (arith, up.0, small)))
            ∙ was_at.stands
        | inr still ↦ part_of-same (length its_cell) new (cell_place new number kind k) old its_place (omega (arith, takes.long, still.1, was_at.inside)) (omega (arith, was_at.inside)) (λ j small.
            let index : cell_place new number kind k + j ≡ its_place + j = omega (arith, still.1) in
            ap (slice_index new) index ∙ takes.behind (its_place + j) (omega (arith, still.0)))
            ∙ was_at.stands
      ] in
      subst⁻¹ P same.cell (record {
        view = was_at.view;
        is_cell = was_at.is_cell;
        stands = stood;
        behind_array = elim same.stands [ inl up ↦ omega (arith, up.1, was_at.behind_array, length-others) | inr still ↦ omega (arith, still.1, was_at.behind_array, length-others) ];
        inside = elim same.stands [ inl up ↦ omega (arith, up.0, up.1, end) | inr still ↦ omega (arith, still.1, was_at.inside) ];
      })

  sources-ordered : (j k a b : ℕ) → ((j < at) × (a ≡ j)) ⊎ ((at ≤ j) × (a ≡ j + 1)) → ((k < at) × (b ≡ k)) ⊎ ((at ≤ k) × (b ≡ k + 1)) → j < k → a < b
  sources-ordered j k a b (inl p) (inl q) h = omega (arith, p.1, q.1)
  sources-ordered j k a b (inl p) (inr q) h = omega (arith, p.1, q.1)
  sources-ordered j k a b (inr p) (inl q) h = absurd (omega (arith, p.0, q.0))
  sources-ordered j k a b (inr p) (inr q) h = omega (arith, p.1, q.1)

  -- two that were apart are apart
  AreApart-moved : (p m q n r t : ℕ) → AreApart p m q n → ((p + m ≤ place) × (r ≡ p + room)) ⊎ ((place + room ≤ p) × (r ≡ p)) → ((q + n ≤ place) × (t ≡ q + room)) ⊎ ((place + room ≤ q) × (t ≡ q))
      → AreApart r m t n
  AreApart-moved p m q n r t (inl x) (inl u) (inl v) = inl (omega (arith, x, u.1, v.1))
  AreApart-moved p m q n r t (inr x) (inl u) (inl v) = inr (omega (arith, x, u.1, v.1))
  AreApart-moved p m q n r t x (inl u) (inr v) = inl (omega (arith, u.0, u.1, v.0, v.1))
  AreApart-moved p m q n r t x (inr u) (inl v) = inr (omega (arith, u.0, u.1, v.0, v.1))
  AreApart-moved p m q n r t (inl x) (inr u) (inr v) = inl (omega (arith, x, u.1, v.1))
  AreApart-moved p m q n r t (inr x) (inr u) (inr v) = inr (omega (arith, x, u.1, v.1))

  AreApart-each : (j k : ℕ) → j < k → k < length others
      → AreApart (cell_place new number kind j) (cell_room (slice_index_or others j [])) (cell_place new number kind k) (cell_room (slice_index_or others k []))
  AreApart-each j k order low =
      let one = IsSame-source j (omega arith) in
      let other = IsSame-source k low in
      let P : List ℕ → List ℕ → Type 0 = λ c d. AreApart (cell_place new number kind j) (cell_room c) (cell_place new number kind k) (cell_room d) in
      subst⁻¹ (λ (c : List ℕ). P c (slice_index_or others k [])) one.1.0.cell
      (subst⁻¹ (λ (d : List ℕ). P (slice_index_or cells one.0 []) d) other.1.0.cell
      (AreApart-moved _ _ _ _ _ _ (was.apart one.0 other.0 (sources-ordered j k one.0 other.0 one.1.1 other.1.1 order) other.1.0.low) one.1.0.stands other.1.0.stands))

  rooms-begin : usable - rooms others ≡ usable - rooms cells + room
  rooms-begin = omega (arith, rooms-others, fits)

  pub IsWritten-taken : IsWritten new number usable kind (remove cells at) right
  IsWritten-taken = record {
    is_page = record {
      kind_is = takes.front (header_place number) (omega arith) ∙ was.kind_is;
      count = omega (arith, takes.counts, length-others);
      each = λ k low. let from = IsSame-source k low in IsCellAt-same k from.0 low from.1.0;
      apart = AreApart-each;
      right_child = right_child-same kind old new (header_place number) right takes.rest was.right_child;
    };
    no_hole = λ k low.
        let from = IsSame-source k low in
        let low_end = no_hole from.0 from.1.0.low in
        let at_end = no_hole at inside in
        elim from.1.0.stands [ inl up ↦ omega (arith, rooms-begin, low_end, up.1) | inr still ↦ omega (arith, rooms-begin, at_end, still.0, still.1) ];
    no_freeblock = takes.no_freeblock;
    content = takes.content ∙ ap (λ (n : ℕ). n % 65536) (sym rooms-begin);
    no_fragment = takes.no_fragment;
  }
