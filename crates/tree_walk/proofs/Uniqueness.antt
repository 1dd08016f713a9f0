-- A page is read in one way, or is refused for one reason; and so of a child and of a root.
use Rattle.std.proofs.Common.{◌≡◌, ◌≢◌, ℕ, ℤ, ◌+◌, ◌<◌, ◌≤◌, ◌⊎◌, List, [], length, slice_index_or, Option, None, refl, sym, ◌∙◌, subst, inl, inr, arith}
use Rattle.std.proofs.Props.{props}
use mathlib.Core.HLevel.{is_prop→PathP}
use Rattle.format_spec.specs.declared.PageKind.{PageKind}
use Rattle.format_spec.specs.declared.CellView.{CellView}
use Rattle.format_spec.specs.Page.{RightChild, cell_place, header_place}
use Rattle.page_spec.specs.Pages.{Pages, IsInRange}
use Rattle.page_spec.specs.Rooms.{array_end}
use Rattle.page_layout.specs.Views.{IsRefused}
use Rattle.page_layout.specs.ViewsLaws.{kind_byte-same}
use Rattle.refusal.specs.declared.Rule.{Rule}
use Rattle.refusal.specs.declared.Rule.TheVariants as broken
use Rattle.tree_spec.specs.declared.TreeKind.{TreeKind}
use Rattle.tree_spec.specs.Bounds.{greatest_rowid}
use Rattle.tree_walk.specs.declared.page.TreePage.{TreePage}
use Rattle.tree_walk.specs.declared.place.Place.{Place}
use Rattle.tree_walk.specs.Pages.{IsDecoded, tree_kind}
use Rattle.tree_walk.specs.PagesLaws.{refused-one, refused-not_read}
use Rattle.tree_walk.specs.Places.{Rises, child_at, low_at, high_at, most_above, IsBadPage, IsBadRoot, IsBadStep, IsChild, IsEntered, IsNoRoot, IsOutOfPlace, IsRootPlace}
use Rattle.tree_walk.proofs.TreeFacts.{right-one, views-one}

-- pages of one number, kind, right child, and of the same bytes and views are one page
same_page : (a b : TreePage) → a.number ≡ b.number → a.kind ≡ b.kind → a.bytes ≡ b.bytes → a.views ≡ b.views → a.right ≡ b.right → a ≡ b
same_page a b n k s v r = λ i. record {
  number = n i;
  kind = k i;
  bytes = s i;
  views = v i;
  right = r i;
  few = is_prop→PathP (λ j. length (v j) ≤ 65536) (λ j. hlevel props) a.few b.few i;
  array = is_prop→PathP (λ j. (m : ℕ) → m < length (v j) → array_end (n j) (k j) (m + 1) ≤ length (s j)) (λ j. hlevel props) a.array b.array i;
  parts = is_prop→PathP (λ j. (m : ℕ) (d : CellView) → m < length (v j)
      → cell_place (s j) (n j) (k j) m + (slice_index_or (v j) m d).local_at + (slice_index_or (v j) m d).local ≤ length (s j)) (λ j. hlevel props) a.parts b.parts i;
}

module _ (bytes : List ℕ) (number usable : ℕ) where
  -- what is read of a page
  pub read-one : (a b : TreePage) → IsDecoded bytes number usable a → IsDecoded bytes number usable b → a ≡ b
  read-one a b one two =
      let kind : a.kind ≡ b.kind = kind_byte-same a.kind b.kind (sym one.kind_is ∙ two.kind_is) in
      same_page a b (one.number_is ∙ sym two.number_is) kind (one.bytes_are ∙ sym two.bytes_are) (views-one bytes number usable a.views b.views one.has_views two.has_views)
      (right-one b.kind bytes (header_place number) a.right b.right (subst (λ (k : PageKind). RightChild k bytes (header_place number) a.right) kind one.right_is) two.right_is)

-- why a page that was read is out of its place
module _ (kind : TreeKind) (low : Option ℤ) (high : ℤ) (read : TreePage) where
  abbrev WhyOut : Rule → Type 0
  WhyOut r =
      ((r ≡ broken.Kind) × (tree_kind read.kind ≢ kind)) ⊎ ((r ≡ broken.Empty) × ((tree_kind read.kind ≡ kind) × (read.views ≡ [])))
      ⊎ ((r ≡ broken.Cells) × ((tree_kind read.kind ≡ kind) × ((read.views ≢ []) × ¬ Rises (tree_kind read.kind) low high read.views)))

  why_out : (r : Rule) → IsOutOfPlace kind low high read r → WhyOut r
  why_out broken.Kind out = inl (refl, out)
  why_out broken.Empty out = inr (inl (refl, (out.0, out.1)))
  why_out broken.Cells out = inr (inr (refl, (out.0, (out.1, out.2))))
  why_out broken.Child out = absurd out
  why_out broken.Depth out = absurd out
  why_out broken.Chain out = absurd out
  why_out broken.Trunk out = absurd out
  why_out broken.Count out = absurd out
  why_out broken.Record out = absurd out

  out-one : (r s : Rule) → IsOutOfPlace kind low high read r → IsOutOfPlace kind low high read s → r ≡ s
  out-one r s one two = by (why_out r one) (why_out s two)
    where
      by : WhyOut r → WhyOut s → r ≡ s
      by (inl a) (inl b) = a.0 ∙ sym b.0
      by (inl a) (inr (inl b)) = absurd (a.1 b.1.0)
      by (inl a) (inr (inr b)) = absurd (a.1 b.1.0)
      by (inr (inl a)) (inl b) = absurd (b.1 a.1.0)
      by (inr (inl a)) (inr (inl b)) = a.0 ∙ sym b.0
      by (inr (inl a)) (inr (inr b)) = absurd (b.1.1.0 a.1.1)
      by (inr (inr a)) (inl b) = absurd (b.1 a.1.0)
      by (inr (inr a)) (inr (inl b)) = absurd (a.1.1.0 b.1.1)
      by (inr (inr a)) (inr (inr b)) = a.0 ∙ sym b.0

  -- a page in its place is not out of it
  out-not_in : (r : Rule) → IsOutOfPlace kind low high read r → tree_kind read.kind ≡ kind → read.views ≢ [] → Rises (tree_kind read.kind) low high read.views → ⊥
  out-not_in r out kind_is some rises = by (why_out r out)
    where
      by : WhyOut r → ⊥
      by (inl a) = a.1 kind_is
      by (inr (inl a)) = some a.1.1
      by (inr (inr a)) = a.1.1.1 rises

-- what is wrong: the page that holds it, and the rule
abbrev Same : ℕ → Rule → ℕ → Rule → Type 0
Same page r other s = (page ≡ other) × (r ≡ s)

bad_page-one : (bytes : List ℕ) (number usable : ℕ) (kind : TreeKind) (low : Option ℤ) (high : ℤ) (page other : ℕ) (r s : Rule) → IsBadPage bytes number usable kind low high page r
    → IsBadPage bytes number usable kind low high other s → Same page r other s
bad_page-one bytes number usable kind low high page other r s one two = (one.0 ∙ sym two.0, by one.1 two.1)
  where
    by : IsRefused bytes number usable r ⊎ ((read : TreePage) × IsDecoded bytes number usable read × IsOutOfPlace kind low high read r)
        → IsRefused bytes number usable s ⊎ ((read : TreePage) × IsDecoded bytes number usable read × IsOutOfPlace kind low high read s) → r ≡ s
    by (inl a) (inl b) = refused-one bytes number usable r s a b
    by (inl a) (inr b) = absurd (refused-not_read bytes number usable r a b.0 b.1)
    by (inr a) (inl b) = absurd (refused-not_read bytes number usable s b a.0 a.1)
    by (inr a) (inr b) =
        let same = read-one bytes number usable b.0 a.0 b.1 a.1 in out-one kind low high a.0 r s a.2 (subst (λ (p : TreePage). IsOutOfPlace kind low high p s) same b.2)

bad_page-not_read : (bytes : List ℕ) (number usable : ℕ) (kind : TreeKind) (low : Option ℤ) (high : ℤ) (page : ℕ) (r : Rule) → IsBadPage bytes number usable kind low high page r
    → (read : TreePage) → IsDecoded bytes number usable read → tree_kind read.kind ≡ kind → read.views ≢ [] → Rises (tree_kind read.kind) low high read.views → ⊥
bad_page-not_read bytes number usable kind low high page r bad read decoded kind_is some rises = by bad.1
  where
    by : IsRefused bytes number usable r ⊎ ((other : TreePage) × IsDecoded bytes number usable other × IsOutOfPlace kind low high other r) → ⊥
    by (inl refused) = refused-not_read bytes number usable r refused read decoded
    by (inr out) =
        let same = read-one bytes number usable out.0 read out.1 decoded in
        out-not_in kind low high read r (subst (λ (p : TreePage). IsOutOfPlace kind low high p r) same out.2) kind_is some rises

module _ (pages : Pages) (size usable count : ℕ) (parent : Place) (above : ℕ) where
  -- a step is refused for one reason
  pub bad_step-one : (page other : ℕ) (r s : Rule) → IsBadStep pages size usable count parent above page r → IsBadStep pages size usable count parent above other s → Same page r other s
  bad_step-one page other r s (inl a) (inl b) = (a.0 ∙ sym b.0, a.1 ∙ sym b.1)
  bad_step-one page other r s (inl a) (inr (inl b)) = absurd (a.2 b.0)
  bad_step-one page other r s (inl a) (inr (inr b)) = absurd (a.2 b.0)
  bad_step-one page other r s (inr (inl a)) (inl b) = absurd (b.2 a.0)
  bad_step-one page other r s (inr (inl a)) (inr (inl b)) = (a.1 ∙ sym b.1, a.2 ∙ sym b.2)
  bad_step-one page other r s (inr (inl a)) (inr (inr b)) = absurd (omega (arith, a.3, b.1))
  bad_step-one page other r s (inr (inr a)) (inl b) = absurd (b.2 a.0)
  bad_step-one page other r s (inr (inr a)) (inr (inl b)) = absurd (omega (arith, b.3, a.1))
  bad_step-one page other r s (inr (inr a)) (inr (inr b)) =
      bad_page-one (pages (child_at parent)) (child_at parent) usable (tree_kind parent.page.kind) (low_at parent) (high_at parent) page other r s a.2 b.2

  -- and then no child is entered
  pub bad_step-not_entered : (page : ℕ) (r : Rule) → IsBadStep pages size usable count parent above page r → IsInRange size count (child_at parent) → above < most_above → (child : Place)
      → IsChild pages usable parent child → ⊥
  bad_step-not_entered page r (inl a) in_range few child is = a.2 in_range
  bad_step-not_entered page r (inr (inl a)) in_range few child is = omega (arith, a.3, few)
  bad_step-not_entered page r (inr (inr a)) in_range few child is =
      bad_page-not_read (pages (child_at parent)) (child_at parent) usable (tree_kind parent.page.kind) (low_at parent) (high_at parent) page r a.2 child.page is.entered.decoded is.kind_is is.some is.entered.rises

-- a page is entered in one way
pub entered-one : (bytes : List ℕ) (number usable : ℕ) (low : Option ℤ) (high : ℤ) (a b : Place) → IsEntered bytes number usable low high a → IsEntered bytes number usable low high b → a ≡ b
entered-one bytes number usable low high a b one two =
    let page = read-one bytes number usable a.page b.page one.decoded two.decoded in
    let lower : a.low ≡ b.low = one.low_is ∙ sym two.low_is in
    let higher : a.high ≡ b.high = one.high_is ∙ sym two.high_is in
    let at : a.at ≡ b.at = one.first ∙ sym two.first in
    λ i. record { page = page i; low = lower i; high = higher i; at = at i }

-- why a page that was read is no root of this kind
module _ (kind : TreeKind) (read : TreePage) where
  abbrev WhyNoRoot : Rule → Type 0
  WhyNoRoot r = ((r ≡ broken.Kind) × (tree_kind read.kind ≢ kind)) ⊎ ((r ≡ broken.Cells) × ((tree_kind read.kind ≡ kind) × ¬ Rises (tree_kind read.kind) None greatest_rowid read.views))

  why_no_root : (r : Rule) → IsNoRoot kind read r → WhyNoRoot r
  why_no_root broken.Kind wrong = inl (refl, wrong)
  why_no_root broken.Cells wrong = inr (refl, (wrong.0, wrong.1))
  why_no_root broken.Empty wrong = absurd wrong
  why_no_root broken.Child wrong = absurd wrong
  why_no_root broken.Depth wrong = absurd wrong
  why_no_root broken.Chain wrong = absurd wrong
  why_no_root broken.Trunk wrong = absurd wrong
  why_no_root broken.Count wrong = absurd wrong
  why_no_root broken.Record wrong = absurd wrong

  no_root-one : (r s : Rule) → IsNoRoot kind read r → IsNoRoot kind read s → r ≡ s
  no_root-one r s one two = by (why_no_root r one) (why_no_root s two)
    where
      by : WhyNoRoot r → WhyNoRoot s → r ≡ s
      by (inl a) (inl b) = a.0 ∙ sym b.0
      by (inl a) (inr b) = absurd (a.1 b.1.0)
      by (inr a) (inl b) = absurd (b.1 a.1.0)
      by (inr a) (inr b) = a.0 ∙ sym b.0

  -- a page in the place of a root is one
  pub no_root-not_in : (r : Rule) → IsNoRoot kind read r → tree_kind read.kind ≡ kind → Rises (tree_kind read.kind) None greatest_rowid read.views → ⊥
  no_root-not_in r wrong kind_is rises = by (why_no_root r wrong)
    where
      by : WhyNoRoot r → ⊥
      by (inl a) = a.1 kind_is
      by (inr a) = a.1.1 rises

module _ (bytes : List ℕ) (number usable : ℕ) (kind : TreeKind) where
  pub bad_root-one : (page other : ℕ) (r s : Rule) → IsBadRoot bytes number usable kind page r → IsBadRoot bytes number usable kind other s → Same page r other s
  bad_root-one page other r s one two = (one.0 ∙ sym two.0, by one.1 two.1)
    where
      by : IsRefused bytes number usable r ⊎ ((read : TreePage) × IsDecoded bytes number usable read × IsNoRoot kind read r)
          → IsRefused bytes number usable s ⊎ ((read : TreePage) × IsDecoded bytes number usable read × IsNoRoot kind read s) → r ≡ s
      by (inl a) (inl b) = refused-one bytes number usable r s a b
      by (inl a) (inr b) = absurd (refused-not_read bytes number usable r a b.0 b.1)
      by (inr a) (inl b) = absurd (refused-not_read bytes number usable s b a.0 a.1)
      by (inr a) (inr b) =
          let same = read-one bytes number usable b.0 a.0 b.1 a.1 in no_root-one kind a.0 r s a.2 (subst (λ (p : TreePage). IsNoRoot kind p s) same b.2)

  pub bad_root-not_entered : (page : ℕ) (r : Rule) → IsBadRoot bytes number usable kind page r → (place : Place) → IsRootPlace bytes number usable kind place → ⊥
  bad_root-not_entered page r bad place is = by bad.1
    where
      by : IsRefused bytes number usable r ⊎ ((read : TreePage) × IsDecoded bytes number usable read × IsNoRoot kind read r) → ⊥
      by (inl refused) = refused-not_read bytes number usable r refused place.page is.entered.decoded
      by (inr wrong) =
          let same = read-one bytes number usable wrong.0 place.page wrong.1 is.entered.decoded in
          no_root-not_in kind place.page r (subst (λ (p : TreePage). IsNoRoot kind p r) same wrong.2) is.kind_is is.entered.rises
