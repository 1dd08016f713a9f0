-- How many pages a tree has whose pages have cells: crates above cite these facts in their proofs.
use Rattle.std.proofs.Common.{◌≡◌, ℕ, zero, suc, ◌+◌, ◌^◌, ◌<◌, ◌≤◌, List, [], ◌∷◌, ◌++◌, length, arith, length-append}
use Rattle.std.specs.List.{flat_map, AllByRecursion}
use Rattle.tree_spec.specs.Trees.{TreeCell, TreeOf, cells_behind, pages_of, IsFull, IsFullRoot}

double : (n : ℕ) → 2 ^ suc n ≡ 2 ^ n + 2 ^ n
double n = grind arith

module _ (levels : ℕ) (below : (tree : TreeOf levels) → IsFull levels tree → 2 ^ suc levels ≤ length (pages_of levels tree) + 1) where
  first-child : (children : List (TreeOf levels × TreeCell)) → 0 < length (cells_behind children) → AllByRecursion (λ child. IsFull levels child.0) children
      → 2 ^ suc levels ≤ length (flat_map (λ (child : TreeOf levels × TreeCell). pages_of levels child.0 ++ child.1.chain) children) + 1
  first-child [] some full = absurd (omega arith)
  first-child (child ∷ children) some full =
      let part = λ (c : TreeOf levels × TreeCell). pages_of levels c.0 ++ c.1.chain in
      omega (arith, below child.0 full.0, length-append (part child) (flat_map part children), length-append (pages_of levels child.0) child.1.chain)

-- a tree whose pages all have cells has twice as many leaves with each level
pub IsFull-pages : (levels : ℕ) (tree : TreeOf levels) → IsFull levels tree → 2 ^ suc levels ≤ length (pages_of levels tree) + 1
IsFull-pages zero tree full = omega arith
IsFull-pages (suc levels) tree full =
    let front = flat_map (λ (child : TreeOf levels × TreeCell). pages_of levels child.0 ++ child.1.chain) tree.children in
    omega (
      arith,
      double (suc levels),
      first-child levels (IsFull-pages levels) tree.children full.0 full.1.0,
      IsFull-pages levels tree.last full.1.1,
      length-append front (pages_of levels tree.last),
    )

-- and so has one whose root has none
pub IsFullRoot-pages : (levels : ℕ) (tree : TreeOf levels) → IsFullRoot levels tree → 2 ^ levels ≤ length (pages_of levels tree)
IsFullRoot-pages zero tree full = omega arith
IsFullRoot-pages (suc levels) tree full =
    let front = flat_map (λ (child : TreeOf levels × TreeCell). pages_of levels child.0 ++ child.1.chain) tree.children in
    omega (arith, IsFull-pages levels tree.last full.below.1, length-append front (pages_of levels tree.last))
