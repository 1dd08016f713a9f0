-- A page is refused for one reason, and is not read then: crates above cite these facts in their proofs.
use Rattle.std.proofs.Common.{◌≡◌, ℕ, ◌⊎◌, List, refl, sym, ◌∙◌, inl, inr}
use Rattle.format_spec.specs.declared.PageKind.{PageKind}
use Rattle.page_layout.specs.Views.{HasKind, IsRefused}
use Rattle.refusal.specs.declared.Rule.{Rule}
use Rattle.refusal.specs.declared.Rule.TheVariants as broken
use Rattle.tree_walk.specs.declared.page.TreePage.{TreePage}
use Rattle.tree_walk.specs.Pages.{IsDecoded}

module _ (bytes : List ℕ) (number usable : ℕ) where
  -- why a page is refused
  abbrev WhyRefused : Rule → Type 0
  WhyRefused r = ((r ≡ broken.Kind) × ((kind : PageKind) → ¬ HasKind bytes number kind)) ⊎ ((r ≡ broken.Cells) × ((kind : PageKind) × HasKind bytes number kind))

  why_refused : (r : Rule) → IsRefused bytes number usable r → WhyRefused r
  why_refused broken.Kind refused = inl (refl, refused)
  why_refused broken.Cells refused = inr (refl, refused.0)
  why_refused broken.Child refused = absurd refused
  why_refused broken.Depth refused = absurd refused
  why_refused broken.Empty refused = absurd refused
  why_refused broken.Chain refused = absurd refused
  why_refused broken.Trunk refused = absurd refused
  why_refused broken.Count refused = absurd refused
  why_refused broken.Record refused = absurd refused

  pub refused-one : (r s : Rule) → IsRefused bytes number usable r → IsRefused bytes number usable s → r ≡ s
  refused-one r s one two = by (why_refused r one) (why_refused s two)
    where
      by : WhyRefused r → WhyRefused s → r ≡ s
      by (inl a) (inl b) = a.0 ∙ sym b.0
      by (inl a) (inr b) = absurd (a.1 b.1.0 b.1.1)
      by (inr a) (inl b) = absurd (b.1 a.1.0 a.1.1)
      by (inr a) (inr b) = a.0 ∙ sym b.0

  pub refused-not_read : (r : Rule) → IsRefused bytes number usable r → (read : TreePage) → IsDecoded bytes number usable read → ⊥
  refused-not_read broken.Kind refused read decoded = refused read.kind decoded.kind_is
  refused-not_read broken.Cells refused read decoded = let has = decoded.has_views in refused.1 has.kind has.cells has.right has.is_page
  refused-not_read broken.Child refused read decoded = refused
  refused-not_read broken.Depth refused read decoded = refused
  refused-not_read broken.Empty refused read decoded = refused
  refused-not_read broken.Chain refused read decoded = refused
  refused-not_read broken.Trunk refused read decoded = refused
  refused-not_read broken.Count refused read decoded = refused
  refused-not_read broken.Record refused read decoded = refused
