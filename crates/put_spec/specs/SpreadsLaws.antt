-- Cells that are spread over several pages: crates above cite these facts in their proofs.
use Rattle.std.proofs.Common.{ℕ, List, [], ◌∷◌, ◌++◌, subst}
use Rattle.format_spec.specs.Page.{IsPage}
use Rattle.tree_spec.specs.declared.TreeKind.{TreeKind}
use Rattle.tree_spec.specs.Trees.{kind_at}
use Rattle.tree_spec.specs.Standing.{Sizes, Paged}
use Rattle.tree_spec.specs.Changes.{Writes}
use Rattle.put_spec.specs.Steps.{Spelled, bytes_in, IsSpread, IsSettled}

module _ (sizes : Sizes) (levels : ℕ) (kind : TreeKind) where
  -- the cells that are left are spread on
  pub spread-then : (dividers more : List Spelled) (cells left rest : List Spelled) (a b c : Paged) → IsSpread sizes levels kind cells a b dividers left → IsSpread sizes levels kind left b c more rest
      → IsSpread sizes levels kind cells a c (dividers ++ more) rest
  spread-then [] more cells left rest a b c one two =
      subst (λ (base : Paged). IsSpread sizes levels kind cells base c more rest) one.1 (subst (λ (l : List Spelled). IsSpread sizes levels kind l b c more rest) one.0 two)
  spread-then (divider ∷ dividers) more cells left rest a b c one two = (one.0, one.1, one.2, spread-then dividers more one.0 left rest one.1 b c one.3 two)

  -- the cells that are left stand in their page
  pub spread-settled : (dividers : List Spelled) (page right : ℕ) (cells left : List Spelled) (a b c : Paged) → IsSpread sizes levels kind cells a b dividers left → Writes page b c
      → IsPage (c.pages page) page sizes.usable (kind_at kind levels) (bytes_in left) right → IsSettled sizes levels kind page right cells a c dividers
  spread-settled [] page right cells left a b c spread writes written = (
    subst (λ (base : Paged). Writes page base c) spread.1 writes,
    subst (λ (l : List Spelled). IsPage (c.pages page) page sizes.usable (kind_at kind levels) (bytes_in l) right) spread.0 written,
  )
  spread-settled (divider ∷ dividers) page right cells left a b c spread writes written =
      (spread.0, spread.1, spread.2, spread-settled dividers page right spread.0 left spread.1 b c spread.3 writes written)
