-- A walk over a tree finds one list of things, whatever the pages hold: crates above cite these facts in their proofs.
use Rattle.std.proofs.Common.{◌≡◌, ◌≢◌, ℕ, ℤ, zero, suc, ◌-◌, ◌<◌, ◌⊎◌, Bool, true, false, IsTrue, IsFalse, List, [], ◌∷◌, ◌++◌, length, map, refl, sym, ap, ap₂, ◌∙◌, subst, inl, inr, arith}
use Rattle.std.proofs.Math.Path.{subst⁻¹}
use Rattle.std.proofs.lemmas.Bool.{cases_lt}
use Rattle.std.specs.List.{AllByRecursion}
use Rattle.common_spec.specs.ReadingLaws.{IsOne}
use Rattle.format_spec.specs.declared.PageKind.{PageKind}
use Rattle.format_spec.specs.declared.CellView.{CellView}
use Rattle.format_spec.specs.Cell.{IsCell}
use Rattle.cell_codec.specs.CellLaws.{cell-same}
use Rattle.page_spec.specs.Chains.{pages_for, named_behind, last_linked, IsBroken}
use Rattle.page_spec.specs.Pages.{IsInRange}
use Rattle.page_spec.specs.ChainsLaws.{same_linked, named-in_range, chain-not_broken}
use Rattle.page_layout.specs.Views.{IsRefused}
use Rattle.page_layout.specs.ViewsLaws.{kind_byte-same}
use Rattle.refusal.specs.declared.Rule.{Rule}
use Rattle.refusal.specs.declared.Rule.TheVariants as broken
use Rattle.tree_spec.specs.declared.TreeKind.{TreeKind}
use Rattle.tree_spec.specs.declared.TreeKind.TheVariants.{Table, Index}
use Rattle.tree_spec.specs.Trees.{TreeCell, Member, member, between, leaf_kind, interior_kind, greatest_depth}
use Rattle.tree_spec.specs.Bounds.{below_rowids, greatest_rowid}
use Rattle.tree_spec.specs.Standing.{Sizes, Paged}
use Rattle.tree_spec.specs.PagesLaws.{page-same}
use Rattle.tree_spec.specs.OneTreeLaws.{held-one}
use Rattle.database_spec.specs.Walks.{Finding, Finds, Ends, Holds, Breaks, Seen, bytes_seen, is_empty, bare, IsAccepted, IsWhole, IsTorn, IsCellVisit, AreCellVisits, IsChildVisit, AreChildVisits, GoesOn, IsInside, IsRead, IsVisit, IsWalk}

-- two things that are made alike of the same are the same
made : {A B : Type 0} (f : A → B) (a b : B) (x y : A) → a ≡ f x → b ≡ f y → x ≡ y → a ≡ b
made f a b x y p q e = p ∙ ap f e ∙ sym q

-- a test does not pass and fail
pub truth-apart : (b : Bool) → IsTrue b → IsFalse b → ⊥
truth-apart true t f = absurd (let h : ◌≡◌ {A = Bool} true false = sym t ∙ f in let no : ⊥ = cc in no)
truth-apart false t f = absurd (let h : ◌≡◌ {A = Bool} true false = sym t ∙ f in let no : ⊥ = cc in no)

-- a page is refused for one reason
refused-cases : (page : List ℕ) (number usable : ℕ) (rule : Rule) → IsRefused page number usable rule
    → ((rule ≡ broken.Kind) × IsRefused page number usable broken.Kind) ⊎ ((rule ≡ broken.Cells) × IsRefused page number usable broken.Cells)
refused-cases page number usable broken.Kind h = inl (refl, h)
refused-cases page number usable broken.Cells h = inr (refl, h)
refused-cases page number usable broken.Child h = absurd h
refused-cases page number usable broken.Depth h = absurd h
refused-cases page number usable broken.Empty h = absurd h
refused-cases page number usable broken.Chain h = absurd h
refused-cases page number usable broken.Trunk h = absurd h
refused-cases page number usable broken.Count h = absurd h
refused-cases page number usable broken.Record h = absurd h

refused-one : (page : List ℕ) (number usable : ℕ) → IsOne (IsRefused page number usable)
refused-one page number usable a b p q = both (refused-cases page number usable a p) (refused-cases page number usable b q)
  where
    both : ((a ≡ broken.Kind) × IsRefused page number usable broken.Kind) ⊎ ((a ≡ broken.Cells) × IsRefused page number usable broken.Cells)
        → ((b ≡ broken.Kind) × IsRefused page number usable broken.Kind) ⊎ ((b ≡ broken.Cells) × IsRefused page number usable broken.Cells) → a ≡ b
    both (inl x) (inl y) = x.0 ∙ sym y.0
    both (inl x) (inr y) = absurd (x.1 y.1.0.0 y.1.0.1)
    both (inr x) (inl y) = absurd (y.1 x.1.0.0 x.1.0.1)
    both (inr x) (inr y) = x.0 ∙ sym y.0

-- the pages up to which a chain is linked are one list
broken-numbers : (base : Paged) (size usable first bytes : ℕ) {page other : ℕ} (a : IsBroken base.pages size usable base.count first bytes page) (b : IsBroken base.pages size usable base.count first bytes other) → a.numbers ≡ b.numbers
broken-numbers base size usable first bytes a b =
    elim (cases_lt (length a.numbers) (length b.numbers)) [
      | inl less ↦ absurd (too_short a.wrong less)
      | inr not_less ↦ elim (cases_lt (length b.numbers) (length a.numbers)) [
        | inl less ↦ absurd (too_long b.wrong less)
        | inr also ↦ same_linked base.pages size base.count first a.numbers b.numbers a.linked b.linked (omega arith)
      ]
    ]
  where
    few : {p : ℕ} (x : IsBroken base.pages size usable base.count first bytes p) → (length x.numbers < pages_for usable bytes) ⊎ (length x.numbers ≡ pages_for usable bytes)
    few x = elim x.wrong [ inl w ↦ inl w.0 | inr w ↦ inr w.0 ]

    too_short : ((length a.numbers < pages_for usable bytes) × ¬ IsInRange size base.count (named_behind base.pages first a.numbers)) ⊎ ((length a.numbers ≡ pages_for usable bytes) × (named_behind base.pages first a.numbers ≢ 0))
        → length a.numbers < length b.numbers → ⊥
    too_short (inl w) less = w.1 (named-in_range base.pages size base.count first a.numbers b.numbers a.linked b.linked less)
    too_short (inr w) less = elim (few b) [ inl v ↦ omega (arith, w.0, v, less) | inr v ↦ omega (arith, w.0, v, less) ]

    too_long : ((length b.numbers < pages_for usable bytes) × ¬ IsInRange size base.count (named_behind base.pages first b.numbers)) ⊎ ((length b.numbers ≡ pages_for usable bytes) × (named_behind base.pages first b.numbers ≢ 0))
        → length b.numbers < length a.numbers → ⊥
    too_long (inl w) less = w.1 (named-in_range base.pages size base.count first b.numbers a.numbers b.linked a.linked less)
    too_long (inr w) less = elim (few a) [ inl v ↦ omega (arith, w.0, v, less) | inr v ↦ omega (arith, w.0, v, less) ]

module _ (sizes : Sizes) (base : Paged) where
  seen-one : (page_kind : PageKind) (a b : List Seen) → bytes_seen a ≡ bytes_seen b
      → AllByRecursion (λ (cell : Seen). IsCell page_kind sizes.usable cell.0 cell.1) a → AllByRecursion (λ (cell : Seen). IsCell page_kind sizes.usable cell.0 cell.1) b → a ≡ b
  seen-one page_kind [] [] e p q = refl
  seen-one page_kind [] (y ∷ b) e p q = absurd (let h : ⊥ = cc in h)
  seen-one page_kind (x ∷ a) [] e p q = absurd (let h : ⊥ = cc in h)
  seen-one page_kind (x ∷ a) (y ∷ b) e p q =
      let first : x.0 ≡ y.0 = cc in
      let rest : bytes_seen a ≡ bytes_seen b = cc in
      let view : x.1 ≡ y.1 = (cell-same page_kind sizes.usable x.0 y.0 [] [] x.1 y.1 p.0 q.0 (ap (λ (s : List ℕ). s ++ []) first)).1 in
      let others = seen-one page_kind a b rest p.1 q.1 in
      λ i. (first i, view i) ∷ others i

  -- a page has one kind, one list of cells and one right child
  pub accepted-one : (number : ℕ) (k l : PageKind) (a b : List Seen) (right other : ℕ) → IsAccepted sizes base number k a right → IsAccepted sizes base number l b other → (k ≡ l) × (a ≡ b) × (right ≡ other)
  accepted-one number k l a b right other one two =
      let kind : k ≡ l = kind_byte-same k l (sym one.is_page.kind_is ∙ two.is_page.kind_is) in
      let also = subst⁻¹ (λ (p : PageKind). IsAccepted sizes base number p b other) kind two in
      let same = page-same (base.pages number) number sizes.usable k (bytes_seen a) (bytes_seen b) right other one.is_page also.is_page in
      (kind, seen-one k a b same.0 one.views also.views, same.1)

  pub accepted-not_refused : (number : ℕ) (k : PageKind) (cells : List Seen) (right : ℕ) (rule : Rule) → IsAccepted sizes base number k cells right → ¬ IsRefused (base.pages number) number sizes.usable rule
  accepted-not_refused number k cells right rule is refused =
      elim (refused-cases (base.pages number) number sizes.usable rule refused) [ inl x ↦ x.1 k is.is_page.kind_is | inr x ↦ x.1.1 k (bytes_seen cells) right is.is_page ]

  views-one : (page_kind : PageKind) (a b : List ℕ) (v w : CellView) → a ≡ b → IsCell page_kind sizes.usable a v → IsCell page_kind sizes.usable b w → v ≡ w
  views-one page_kind a b v w e p q = (cell-same page_kind sizes.usable a b [] [] v w p q (ap (λ (s : List ℕ). s ++ []) e)).1

  whole-not_torn : (page_kind : PageKind) (holds : TreeCell → List Member) (page : ℕ) (bytes : List ℕ) (a b : List Finding) → IsWhole sizes base page_kind holds page bytes a → ¬ IsTorn sizes base page_kind page bytes b
  whole-not_torn page_kind holds page bytes a b one two =
      let view : one.cell.view ≡ two.view = views-one page_kind one.cell.bytes bytes one.cell.view two.view one.bytes_are one.held.is_cell two.is_cell in
      let also = subst⁻¹ (λ (v : CellView). IsBroken base.pages sizes.size sizes.usable base.count v.overflow (v.payload - v.local) two.at) view two.is_broken in
      chain-not_broken base.pages sizes.size base.count sizes.usable one.cell.view.overflow (one.cell.view.payload - one.cell.view.local) one.cell.chain two.at one.held.is_chain also

  torn-numbers : (v w : CellView) → v ≡ w → {p q : ℕ} (a : IsBroken base.pages sizes.size sizes.usable base.count v.overflow (v.payload - v.local) p)
      (b : IsBroken base.pages sizes.size sizes.usable base.count w.overflow (w.payload - w.local) q) → a.numbers ≡ b.numbers
  torn-numbers v w e {p} {q} a =
      subst (λ (u : CellView). (b : IsBroken base.pages sizes.size sizes.usable base.count u.overflow (u.payload - u.local) q) → a.numbers ≡ b.numbers) e
      (λ b. broken-numbers base sizes.size sizes.usable v.overflow (v.payload - v.local) a b)

  cell_visit-one : (page_kind : PageKind) (holds : TreeCell → List Member) (page : ℕ) (bytes : List ℕ) → IsOne (IsCellVisit sizes base page_kind holds page bytes)
  cell_visit-one page_kind holds page bytes a b (inl one) (inl two) =
      let cell = held-one sizes base page_kind one.cell two.cell (one.bytes_are ∙ sym two.bytes_are) one.held two.held in
      made (λ (c : TreeCell). map Finds c.chain ++ map (Holds page) (holds c)) a b one.cell two.cell one.findings_are two.findings_are cell
  cell_visit-one page_kind holds page bytes a b (inl one) (inr two) = absurd (whole-not_torn page_kind holds page bytes a b one two)
  cell_visit-one page_kind holds page bytes a b (inr one) (inl two) = absurd (whole-not_torn page_kind holds page bytes b a two one)
  cell_visit-one page_kind holds page bytes a b (inr one) (inr two) =
      let view = views-one page_kind bytes bytes one.view two.view refl one.is_cell two.is_cell in
      made (λ (numbers : List ℕ). map Finds numbers ++ (Breaks (last_linked page numbers) broken.Chain ∷ [])) a b one.is_broken.numbers two.is_broken.numbers one.findings_are two.findings_are
      (torn-numbers one.view two.view view one.is_broken two.is_broken)

  kinds-apart : (kind : TreeKind) → leaf_kind kind ≡ interior_kind kind → ⊥
  kinds-apart Table e = let h : ⊥ = cc in h
  kinds-apart Index e = let h : ⊥ = cc in h

  module _ (kind : TreeKind) where
    cell_visits-one : (page : ℕ) (cells : List Seen) → IsOne (AreCellVisits sizes base kind page cells)
    cell_visits-one page [] a b p q = p ∙ sym q
    cell_visits-one page (cell ∷ cells) a b (own, later, is, are, e) (other, further, also, too, f) =
        let one = cell_visit-one (leaf_kind kind) (λ c. member c ∷ []) page cell.0 own other is also in
        let rest = cell_visits-one page cells later further are too in
        e ∙ ap₂ (λ (x y : List Finding). x ++ y) one rest ∙ sym f

    module _ (visit : ℤ → ℤ → ℕ → List Finding → Type 0) (visit-is : (low high : ℤ) (number : ℕ) → IsOne (visit low high number)) where
      child_visit-one : (parent : ℕ) (low high : ℤ) (number : ℕ) → IsOne (IsChildVisit sizes base kind visit parent low high number)
      child_visit-one parent low high number a b (inl p) (inl q) = p.1 ∙ sym q.1
      child_visit-one parent low high number a b (inl p) (inr q) = absurd (p.0 q.0)
      child_visit-one parent low high number a b (inr p) (inl q) = absurd (q.0 p.0)
      child_visit-one parent low high number a b (inr p) (inr q) = visit-is low high number a b p.1 q.1

      child_visits-one : (page : ℕ) (low high : ℤ) (cells : List Seen) (right : ℕ) → IsOne (AreChildVisits sizes base kind visit page low high cells right)
      child_visits-one page low high [] right a b p q = child_visit-one page low high right a b p q
      child_visits-one page low high (cell ∷ cells) right a b (child, own, later, c, is, are, e) (kid, other, further, d, also, too, f) =
          let one = child_visit-one page low cell.1.rowid cell.1.child child kid c d in
          let two = cell_visit-one (interior_kind kind) (between kind) page cell.0 own other is also in
          let three = child_visits-one page cell.1.rowid high cells right later further are too in
          e ∙ ap₂ (λ (x y : List Finding). x ++ y) one (ap₂ (λ (x y : List Finding). x ++ y) two three) ∙ sym f

      goes_on-one : (root : Bool) (low high : ℤ) (number : ℕ) (cells : List Seen) (Inside : List Finding → Type 0) → IsOne Inside → IsOne (GoesOn sizes base kind visit root low high number cells Inside)
      goes_on-one root low high number cells Inside inside a b (inl p) (inl q) = p.1 ∙ sym q.1
      goes_on-one root low high number cells Inside inside a b (inl p) (inr (inl q)) = absurd (truth-apart (is_empty root cells) p.0 q.0)
      goes_on-one root low high number cells Inside inside a b (inl p) (inr (inr q)) = absurd (truth-apart (is_empty root cells) p.0 q.0)
      goes_on-one root low high number cells Inside inside a b (inr (inl p)) (inl q) = absurd (truth-apart (is_empty root cells) q.0 p.0)
      goes_on-one root low high number cells Inside inside a b (inr (inr p)) (inl q) = absurd (truth-apart (is_empty root cells) q.0 p.0)
      goes_on-one root low high number cells Inside inside a b (inr (inl p)) (inr (inl q)) = p.2 ∙ sym q.2
      goes_on-one root low high number cells Inside inside a b (inr (inl p)) (inr (inr q)) = absurd (p.1 q.1)
      goes_on-one root low high number cells Inside inside a b (inr (inr p)) (inr (inl q)) = absurd (q.1 p.1)
      goes_on-one root low high number cells Inside inside a b (inr (inr p)) (inr (inr q)) = inside a b p.2 q.2

      inside-one : (root : Bool) (depth : ℕ) (low high : ℤ) (number : ℕ) (page_kind : PageKind) (cells : List Seen) (right : ℕ) → IsOne (IsInside sizes base kind visit root depth low high number page_kind cells right)
      inside-one root depth low high number page_kind cells right a b (inl p) (inl q) = p.2 ∙ sym q.2
      inside-one root depth low high number page_kind cells right a b (inl p) (inr (inl q)) = absurd (p.0 q.0)
      inside-one root depth low high number page_kind cells right a b (inl p) (inr (inr q)) = absurd (p.1 q.0)
      inside-one root depth low high number page_kind cells right a b (inr (inl p)) (inl q) = absurd (q.0 p.0)
      inside-one root depth low high number page_kind cells right a b (inr (inr p)) (inl q) = absurd (q.1 p.0)
      inside-one root depth low high number page_kind cells right a b (inr (inl p)) (inr (inr q)) = absurd (kinds-apart kind (sym p.0 ∙ q.0))
      inside-one root depth low high number page_kind cells right a b (inr (inr p)) (inr (inl q)) = absurd (kinds-apart kind (sym q.0 ∙ p.0))
      inside-one root depth low high number page_kind cells right a b (inr (inl (e, (rest, p, on)))) (inr (inl (f, (other, q, too)))) =
          made (λ (r : List Finding). Ends number depth ∷ r) a b rest other p q
          (goes_on-one root low high number cells (AreCellVisits sizes base kind number cells) (cell_visits-one number cells) rest other on too)
      inside-one root depth low high number page_kind cells right a b (inr (inr (e, (rest, p, on)))) (inr (inr (f, (other, q, too)))) =
          made (λ (r : List Finding). bare root number cells ++ r) a b rest other p q
          (goes_on-one root low high number cells (AreChildVisits sizes base kind visit number low high cells right) (child_visits-one number low high cells right) rest other on too)

      read-one : (root : Bool) (depth : ℕ) (low high : ℤ) (number : ℕ) → IsOne (IsRead sizes base kind visit root depth low high number)
      read-one root depth low high number a b (inl (r, p, e)) (inl (s, q, f)) =
          made (λ (t : Rule). Breaks number t ∷ []) a b r s e f (refused-one (base.pages number) number sizes.usable r s p q)
      read-one root depth low high number a b (inl (r, p, e)) (inr (k, cells, right, is, in_)) = absurd (accepted-not_refused number k cells right r is p)
      read-one root depth low high number a b (inr (k, cells, right, is, in_)) (inl (r, p, e)) = absurd (accepted-not_refused number k cells right r is p)
      read-one root depth low high number a b (inr (k, cells, right, is, in_)) (inr (l, others, other, also, too)) =
          let same = accepted-one number k l cells others right other is also in
          let moved = subst⁻¹ (λ (p : PageKind). IsInside sizes base kind visit root depth low high number p others other b) same.0 too in
          let further = subst⁻¹ (λ (c : List Seen). IsInside sizes base kind visit root depth low high number k c other b) same.1 moved in
          let last = subst⁻¹ (λ (n : ℕ). IsInside sizes base kind visit root depth low high number k cells n b) same.2 further in
          inside-one root depth low high number k cells right a b in_ last

    pub visit-one : (left : ℕ) (root : Bool) (depth : ℕ) (low high : ℤ) (number : ℕ) → IsOne (IsVisit sizes base kind left root depth low high number)
    visit-one zero root depth low high number a b p q = p ∙ sym q
    visit-one (suc left) root depth low high number a b (rest, p, read) (other, q, also) =
        made (λ (r : List Finding). Finds number ∷ r) a b rest other p q
        (read-one (IsVisit sizes base kind left false (suc depth)) (visit-one left false (suc depth)) root depth low high number rest other read also)

    -- a walk finds one list
    pub walk-one : (root : ℕ) → IsOne (IsWalk sizes base kind root)
    walk-one root = visit-one greatest_depth true 1 below_rowids greatest_rowid root
