-- A page is accepted with one list of views, or refused by one rule.
use Rattle.std.proofs.Common.{◌≡◌, ℕ, pos, zero, suc, ◌+◌, ◌<◌, ◌≤◌, max, List, [], ◌∷◌, ◌++◌, length, get_or, refl, sym, ap, ◌∙◌, subst, inl, inr, arith}
use Rattle.std.proofs.Math.Path.{subst⁻¹}
use Rattle.std.proofs.lemmas.List.{length_push, get_or_default}
use Rattle.byte_fields.specs.Bytes.{part_of}
use Rattle.byte_fields.specs.Numbers.{number_at}
use Rattle.common_spec.specs.Reading.{OrFault}
use Rattle.common_spec.specs.ReadingLaws.{IsOne, OrFault-one}
use Rattle.format_spec.specs.declared.PageKind.{PageKind}
use Rattle.format_spec.specs.declared.PageKind.TheVariants.{IndexInterior, TableInterior, IndexLeaf, TableLeaf}
use Rattle.format_spec.specs.declared.CellView.{CellView}
use Rattle.format_spec.specs.Cell.{IsCell}
use Rattle.format_spec.specs.Page.{IsPage, IsCellAt, AreApart, RightChild, header_place, cell_place, cell_count}
use Rattle.page_spec.specs.PlacesLaws.{length-part_of}
use Rattle.refusal.specs.declared.Rule.{Rule}
use Rattle.refusal.specs.declared.Rule.TheVariants as rule
use Rattle.page_layout.specs.declared.reading.PageFault.{PageFault}
use Rattle.page_layout.specs.declared.reading.PageFault.TheVariants.{BadPage, Memory}
use Rattle.page_layout.specs.Views.{HasViews, HasKind, IsRefused, HasPageFault, IsViewAt, AreViews}
use Rattle.page_layout.specs.ViewsLaws.{view-size, kind_byte-same}
use Rattle.page_layout.proofs.Viewing.{IsViewAt-of_cell, IsCellAt-of_view, AreViews-one}
use Rattle.page_layout.proofs.Marking.{all-one_more}

-- the cells that views are of
abbrev pub viewed : List ℕ → ℕ → PageKind → ℕ → List CellView → List (List ℕ)
viewed page number kind k [] = []
viewed page number kind k (view ∷ views) = part_of page (cell_place page number kind k) view.size ∷ viewed page number kind (suc k) views

length-viewed : (page : List ℕ) (number : ℕ) (kind : PageKind) (k : ℕ) (views : List CellView) → length (viewed page number kind k views) ≡ length views
length-viewed page number kind k [] = refl
length-viewed page number kind k (view ∷ views) = ap (λ (n : ℕ). suc n) (length-viewed page number kind (suc k) views)

get_or-viewed : (page : List ℕ) (number : ℕ) (kind : PageKind) (k : ℕ) (views : List CellView) (j : ℕ) (d : CellView) → j < length views
    → get_or (viewed page number kind k views) j [] ≡ part_of page (cell_place page number kind (k + j)) (get_or views j d).size
get_or-viewed page number kind k [] j d low = absurd (omega arith)
get_or-viewed page number kind k (view ∷ views) zero d low = ap (λ (n : ℕ). part_of page (cell_place page number kind n) view.size) (omega arith)
get_or-viewed page number kind k (view ∷ views) (suc j) d low =
    get_or-viewed page number kind (suc k) views j d (omega arith)
    ∙ ap (λ (n : ℕ). part_of page (cell_place page number kind n) (get_or views j d).size) (omega arith)

-- the right child of a page of the kind
right_in : PageKind → List ℕ → ℕ → ℕ
right_in TableLeaf page header = 0
right_in TableInterior page header = number_at (header + 8) 4 page
right_in IndexLeaf page header = 0
right_in IndexInterior page header = number_at (header + 8) 4 page

RightChild-right_in : (kind : PageKind) (page : List ℕ) (header : ℕ) → RightChild kind page header (right_in kind page header)
unfolding right_in
RightChild-right_in TableLeaf page header = refl
RightChild-right_in TableInterior page header = refl
RightChild-right_in IndexLeaf page header = refl
RightChild-right_in IndexInterior page header = refl

AreApart-same_sizes : (p m q n a b : ℕ) → m ≡ a → n ≡ b → AreApart p m q n → AreApart p a q b
AreApart-same_sizes p m q n a b e f (inl x) = inl (omega arith)
AreApart-same_sizes p m q n a b e f (inr x) = inr (omega arith)

some_view : CellView
some_view = record { size = 0; rowid = pos 0; child = 0; payload = 0; local_at = 0; local = 0; overflow = 0 }

module _ (page : List ℕ) (number usable : ℕ) (whole : usable ≤ length page) where
  -- views of as many cells as the page counts
  pub AreViews-has_views : (kind : PageKind) (count : ℕ) (views : List CellView) → HasKind page number kind → cell_count page number ≡ count → length views ≡ count
      → AreViews page number usable kind count views → HasViews page number usable views
  AreViews-has_views kind count views has counts many are =
      let cells = viewed page number kind 0 views in
      let long : length cells ≡ length views = length-viewed page number kind 0 views in
      let all : length cells ≡ count = long ∙ many in
      let at = λ (k : ℕ) (low : k < length views).
      get_or-viewed page number kind 0 views k some_view low ∙ ap (λ (n : ℕ). part_of page (cell_place page number kind n) (get_or views k some_view).size) (zero_more k) in
      let size = λ (k : ℕ) (low : k < length views).
      ap length (at k low) ∙ length-part_of page (cell_place page number kind k) (get_or views k some_view).size (omega (arith, (are.each k some_view low).inside)) in
      record {
        kind = kind;
        cells = cells;
        right = right_in kind page (header_place number);
        is_page = record {
          kind_is = has;
          count = counts ∙ sym all;
          each = λ k low.
              let below : k < length views = omega arith in
              subst⁻¹ (λ (n : ℕ). IsCellAt page number usable kind n k (get_or cells k [])) all
              (subst⁻¹ (IsCellAt page number usable kind count k) (at k below) (IsCellAt-of_view page number usable kind whole count k (get_or views k some_view) (are.each k some_view below)));
          apart = λ j k order low.
              let below : k < length views = omega arith in
              let first : j < length views = omega arith in
              AreApart-same_sizes _ _ _ _ _ _ (sym (ap (max 4) (size j first))) (sym (ap (max 4) (size k below))) (are.apart j k some_view order below);
          right_child = RightChild-right_in kind page (header_place number);
        };
        many = sym long;
        each = λ k d low.
            let below : k < length views = omega arith in
            let same : get_or views k some_view ≡ get_or views k d = get_or_default views k some_view d below in
            subst (λ (v : CellView). IsCell kind usable (get_or cells k []) v) same
            (subst⁻¹ (λ (c : List ℕ). IsCell kind usable c (get_or views k some_view)) (at k below) (are.each k some_view below).is_cell);
      }
    where
      zero_more : (k : ℕ) → 0 + k ≡ k
      zero_more k = omega arith

  -- the views of an accepted page
  pub HasViews-are_views : (views : List CellView) (has : HasViews page number usable views) → AreViews page number usable has.kind (length has.cells) views
  HasViews-are_views views has = record {
    each = λ k d low. at k d (omega (arith, low, has.many));
    apart = λ j k d order low.
        let below : k < length has.cells = omega (arith, low, has.many) in
        AreApart-same_sizes _ _ _ _ _ _ (ap (max 4) (sym (size j d (omega arith)))) (ap (max 4) (sym (size k d below))) (has.is_page.apart j k order below);
  }
    where
      size : (k : ℕ) (d : CellView) → k < length has.cells → (get_or views k d).size ≡ length (get_or has.cells k [])
      size k d low = view-size has.kind usable (get_or has.cells k []) (get_or views k d) (has.each k d low)

      at : (k : ℕ) (d : CellView) → k < length has.cells → IsViewAt page number usable has.kind (length has.cells) k (get_or views k d)
      at k d low =
          let was = has.is_page.each k low in
          IsViewAt-of_cell page number usable has.kind whole (length has.cells) k (get_or has.cells k [])
          (record { view = get_or views k d; is_cell = has.each k d low; stands = was.stands; behind_array = was.behind_array; inside = was.inside })

  -- a page has one list of views
  HasViews-one : IsOne (HasViews page number usable)
  HasViews-one a b one two =
      let kinds : one.kind ≡ two.kind = kind_byte-same one.kind two.kind (sym one.is_page.kind_is ∙ two.is_page.kind_is) in
      let counts : length two.cells ≡ length one.cells = sym two.is_page.count ∙ one.is_page.count in
      let others = subst⁻¹ (λ (k : PageKind). AreViews page number usable k (length two.cells) b) kinds (HasViews-are_views b two) in
      let there = subst (λ (n : ℕ). AreViews page number usable one.kind n b) counts others in
      AreViews-one page number usable one.kind whole (length one.cells) a b one.many (two.many ∙ counts) (HasViews-are_views a one) there

  IsRefused-one : (a b : Rule) → IsRefused page number usable a → IsRefused page number usable b → a ≡ b
  IsRefused-one rule.Kind rule.Kind p q = refl
  IsRefused-one rule.Kind rule.Cells p q = absurd (p q.0.0 q.0.1)
  IsRefused-one rule.Cells rule.Kind p q = absurd (q p.0.0 p.0.1)
  IsRefused-one rule.Cells rule.Cells p q = refl
  IsRefused-one rule.Kind rule.Child p q = absurd q
  IsRefused-one rule.Kind rule.Depth p q = absurd q
  IsRefused-one rule.Kind rule.Empty p q = absurd q
  IsRefused-one rule.Kind rule.Chain p q = absurd q
  IsRefused-one rule.Kind rule.Trunk p q = absurd q
  IsRefused-one rule.Kind rule.Count p q = absurd q
  IsRefused-one rule.Kind rule.Record p q = absurd q
  IsRefused-one rule.Cells rule.Child p q = absurd q
  IsRefused-one rule.Cells rule.Depth p q = absurd q
  IsRefused-one rule.Cells rule.Empty p q = absurd q
  IsRefused-one rule.Cells rule.Chain p q = absurd q
  IsRefused-one rule.Cells rule.Trunk p q = absurd q
  IsRefused-one rule.Cells rule.Count p q = absurd q
  IsRefused-one rule.Cells rule.Record p q = absurd q
  IsRefused-one rule.Child b p q = absurd p
  IsRefused-one rule.Depth b p q = absurd p
  IsRefused-one rule.Empty b p q = absurd p
  IsRefused-one rule.Chain b p q = absurd p
  IsRefused-one rule.Trunk b p q = absurd p
  IsRefused-one rule.Count b p q = absurd p
  IsRefused-one rule.Record b p q = absurd p

  HasPageFault-one : IsOne (HasPageFault page number usable)
  HasPageFault-one (BadPage a) (BadPage b) p q = ap BadPage (IsRefused-one a b p q)
  HasPageFault-one (BadPage a) (Memory b) p q = absurd q
  HasPageFault-one (Memory a) b p q = absurd p

  HasViews-no_fault : (views : List CellView) (fault : PageFault) → HasViews page number usable views → ¬ HasPageFault page number usable fault
  HasViews-no_fault views (BadPage rule.Kind) has f = f has.kind has.is_page.kind_is
  HasViews-no_fault views (BadPage rule.Cells) has f = f.1 has.kind has.cells has.right has.is_page
  HasViews-no_fault views (BadPage rule.Child) has f = f
  HasViews-no_fault views (BadPage rule.Depth) has f = f
  HasViews-no_fault views (BadPage rule.Empty) has f = f
  HasViews-no_fault views (BadPage rule.Chain) has f = f
  HasViews-no_fault views (BadPage rule.Trunk) has f = f
  HasViews-no_fault views (BadPage rule.Count) has f = f
  HasViews-no_fault views (BadPage rule.Record) has f = f
  HasViews-no_fault views (Memory e) has f = f

  pub answer-one : IsOne (OrFault (HasViews page number usable) (HasPageFault page number usable))
  answer-one = OrFault-one (HasViews page number usable) (HasPageFault page number usable) HasViews-one HasPageFault-one HasViews-no_fault

  -- each page has views
  pub IsPage-has_views : (kind : PageKind) (cells : List (List ℕ)) (right : ℕ) → IsPage page number usable kind cells right → (views : List CellView) × HasViews page number usable views
  IsPage-has_views kind cells right is =
      let all = up_to (length cells) (omega arith) in
      (all.0, record { kind = kind; cells = cells; right = right; is_page = is; many = all.1; each = all.2 })
    where
      up_to : (n : ℕ) → n ≤ length cells → (views : List CellView) × (length views ≡ n) × ((k : ℕ) (d : CellView) → k < n → IsCell kind usable (get_or cells k []) (get_or views k d))
      up_to zero fits = ([], refl, λ k d low. absurd (omega arith))
      up_to (suc n) fits =
          let before = up_to n (omega arith) in
          let at = is.each n (omega arith) in
          let long : length (before.0 ++ at.view ∷ []) ≡ suc n = omega (arith, length_push before.0 at.view, before.1) in (
            before.0 ++ at.view ∷ [],
            long,
            λ k d low. all-one_more (λ (j : ℕ) (v : CellView). IsCell kind usable (get_or cells j []) v) before.0 at.view
                (λ j e small. before.2 j e (omega (arith, small, before.1)))
                (subst⁻¹ (λ (j : ℕ). IsCell kind usable (get_or cells j []) at.view) before.1 at.is_cell)
                k d (omega (arith, low, long)),
          )
