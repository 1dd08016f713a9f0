-- The marks of the bytes that the cells of a page take.
use Rattle.std.proofs.Common.{◌≡◌, ℕ, ◌+◌, ◌<◌, ◌≤◌, ◌⊎◌, max, List, [], ◌∷◌, ◌++◌, length, get_or, refl, sym, ◌∙◌, ap, subst, inl, inr, arith}
use Rattle.std.proofs.lemmas.Bool.{cases_lt}
use Rattle.std.proofs.lemmas.List.{get_or_append_left, get_or_push, length_push, get_or_default}
use Rattle.format_spec.specs.declared.PageKind.{PageKind}
use Rattle.format_spec.specs.declared.CellView.{CellView}
use Rattle.format_spec.specs.Page.{AreApart, cell_place}
use Rattle.page_layout.specs.Views.{IsViewAt, AreViews}
use Rattle.page_layout.proofs.Viewing.{IsViewAt-one}
use Rattle.page_layout.specs.Bits.{mark_at}

-- spans that share no byte are apart
no_common_byte-apart : (a m b n : ℕ) → 0 < m → 0 < n → ((k : ℕ) → a ≤ k → k < a + m → b ≤ k → k < b + n → ⊥) → AreApart a m b n
no_common_byte-apart a m b n p q h =
    elim (cases_lt b (a + m)) [
      | inl low ↦ elim (cases_lt a (b + n)) [
        | inl other ↦ elim (cases_lt a b) [
          | inl before ↦ absurd (h b (omega arith) low (omega arith) (omega arith))
          | inr after ↦ absurd (h a (omega arith) (omega arith) after other)
        ]
        | inr high ↦ inr high
      ]
      | inr high ↦ inl high
    ]

-- and those that share one are not
common_byte-not_apart : (a m b n k : ℕ) → a ≤ k → k < a + m → b ≤ k → k < b + n → AreApart a m b n → ⊥
common_byte-not_apart a m b n k h i j l (inl x) = omega arith
common_byte-not_apart a m b n k h i j l (inr x) = omega arith

-- one more element
pub all-one_more : {X : Type 0} (P : ℕ → X → Type 0) (xs : List X) (x : X) → ((k : ℕ) (d : X) → k < length xs → P k (get_or xs k d)) → P (length xs) x
    → (k : ℕ) (d : X) → k < length (xs ++ x ∷ []) → P k (get_or (xs ++ x ∷ []) k d)
all-one_more P xs x old new k d h =
    elim (cases_lt k (length xs)) [
      | inl l ↦ subst (P k) (sym (get_or_append_left xs (x ∷ []) d k l)) (old k d l)
      | inr g ↦
          let e : length xs ≡ k = omega (arith, length_push xs x) in
          subst (P k) (sym (get_or_push xs x d k e)) (subst (λ n. P n x) e new)
    ]

-- whether a byte is among those from a place on
span-in_or_out : (place size b : ℕ) → ((place ≤ b) × (b < place + size)) ⊎ ((b < place) ⊎ (place + size ≤ b))
span-in_or_out place size b =
    elim (cases_lt b place) [
      | inl l ↦ inr (inl l)
      | inr g ↦ elim (cases_lt b (place + size)) [ inl l ↦ inl (g, l) | inr h ↦ inr (inr h) ]
    ]

-- a byte outside a span that is known by another name
pub outside-same_span : (place size other room b : ℕ) → place ≡ other → size ≡ room → (b < other) ⊎ (other + room ≤ b) → (b < place) ⊎ (place + size ≤ b)
outside-same_span place size other room b e f (inl low) = inl (omega arith)
outside-same_span place size other room b e f (inr high) = inr (omega arith)

-- how many bytes a cell takes
abbrev pub view_room : CellView → ℕ
view_room view = max 4 view.size

module _ (page : List ℕ) (number : ℕ) (kind : PageKind) where
  -- a byte is among those that a cell with this view takes at an index
  abbrev pub Takes : ℕ → CellView → ℕ → Type 0
  Takes k view b = (cell_place page number kind k ≤ b) × (b < cell_place page number kind k + view_room view)

  -- a byte is marked exactly where one of the cells takes it
  pub record AreMarked (views : List CellView) (marks : List ℕ) : Type 0 where
    pub set : (b k : ℕ) (d : CellView) → k < length views → Takes k (get_or views k d) b → mark_at marks b ≡ 1
    pub only : (b : ℕ) → mark_at marks b ≡ 1 → (k : ℕ) × (k < length views) × ((d : CellView) → Takes k (get_or views k d) b)

  pub AreMarked-none : (marks : List ℕ) → ((b : ℕ) → mark_at marks b ≡ 0) → AreMarked [] marks
  AreMarked-none marks unset = record {
    set = λ b k d h. absurd (omega arith);
    only = λ b e. absurd (omega (arith, unset b, e));
  }

  module _ (views : List CellView) (view : CellView) (marks : List ℕ) (marked : AreMarked views marks) where
    pub AreMarked-one_more : (now : List ℕ)
        → ((b : ℕ) → cell_place page number kind (length views) ≤ b → b < cell_place page number kind (length views) + view_room view → mark_at now b ≡ 1)
        → ((b : ℕ) → (b < cell_place page number kind (length views)) ⊎ (cell_place page number kind (length views) + view_room view ≤ b) → mark_at now b ≡ mark_at marks b)
        → AreMarked (views ++ view ∷ []) now
    AreMarked-one_more now set kept = record {
      set = λ b. all-one_more (λ k v. Takes k v b → mark_at now b ≡ 1) views view
          (λ j e i takes. elim (span-in_or_out (cell_place page number kind (length views)) (view_room view) b) [ inl among ↦ set b among.0 among.1 | inr out ↦ kept b out ∙ marked.set b j e i takes ])
          (λ takes. set b takes.0 takes.1);
      only = λ b e. elim (span-in_or_out (cell_place page number kind (length views)) (view_room view) b) [
        | inl among ↦ (
          length views,
          omega (arith, length_push views view),
          λ d. subst (λ v. Takes (length views) v b) (sym (get_or_push views view d (length views) refl)) among,
        )
        | inr out ↦
            let w = marked.only b (sym (kept b out) ∙ e) in
            (w.0, omega (arith, length_push views view, w.1), λ d. subst (λ v. Takes w.0 v b) (sym (get_or_append_left views (view ∷ []) d w.0 w.1)) (w.2 d))
      ];
    }

    pub AreViews-one_more : (usable count : ℕ) → AreViews page number usable kind count views → IsViewAt page number usable kind count (length views) view
        → ((b : ℕ) → cell_place page number kind (length views) ≤ b → b < cell_place page number kind (length views) + view_room view → mark_at marks b ≡ 0)
        → AreViews page number usable kind count (views ++ view ∷ [])
    AreViews-one_more usable count first placed free = record {
      each = all-one_more (IsViewAt page number usable kind count) views view first.each placed;
      apart = λ j k d order low. all-one_more (λ n v. j < n → AreApart (cell_place page number kind j) (view_room (get_or (views ++ view ∷ []) j d)) (cell_place page number kind n) (view_room v)) views view
          (λ n e i m. subst (λ v. AreApart (cell_place page number kind j) (view_room v) (cell_place page number kind n) (view_room (get_or views n e))) (sym (get_or_append_left views (view ∷ []) d j (omega arith)))
          (subst (λ v. AreApart (cell_place page number kind j) (view_room (get_or views j d)) (cell_place page number kind n) (view_room v)) (get_or_default views n d e i) (first.apart j n d m i)))
          (λ m. subst (λ v. AreApart (cell_place page number kind j) (view_room v) (cell_place page number kind (length views)) (view_room view)) (sym (get_or_append_left views (view ∷ []) d j m))
          (no_common_byte-apart (cell_place page number kind j) (view_room (get_or views j d)) (cell_place page number kind (length views)) (view_room view) (omega arith) (omega arith)
          (λ b p q r s. omega (arith, free b r s, marked.set b j d m (p, q)))))
          k d low order;
    }

    -- no page has a further cell that takes a byte of one of these
    pub AreViews-no_overlap : (usable count : ℕ) → usable ≤ length page → AreViews page number usable kind count views → (n : ℕ) → length views ≡ n → (one : CellView) → IsViewAt page number usable kind count n one
        → (b : ℕ) × (cell_place page number kind n ≤ b) × (b < cell_place page number kind n + view_room one) × (mark_at marks b ≡ 1)
        → (others : List CellView) → n < length others → AreViews page number usable kind count others → ⊥
    AreViews-no_overlap usable count whole first n many one at w others less are =
        let j = marked.only w.0 w.3 in
        let k = j.0 in
        let takes = j.2 one in
        let mine : get_or others n one ≡ one = IsViewAt-one page number usable kind whole count count n (get_or others n one) one (are.each n one less) at in
        let theirs : get_or others k one ≡ get_or views k one = IsViewAt-one page number usable kind whole count count k (get_or others k one) (get_or views k one) (are.each k one (omega (arith, j.1))) (first.each k one j.1) in
        let my_room : view_room (get_or others n one) ≡ view_room one = ap view_room mine in
        let their_room : view_room (get_or others k one) ≡ view_room (get_or views k one) = ap view_room theirs in
        common_byte-not_apart (cell_place page number kind k) (view_room (get_or others k one)) (cell_place page number kind n) (view_room (get_or others n one)) w.0
        takes.0 (omega (arith, takes.1, their_room)) w.1 (omega (arith, w.2, my_room)) (are.apart k n one (omega (arith, j.1)) less)
