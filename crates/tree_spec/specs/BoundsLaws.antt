-- The rowids of a table tree's list rise: crates above cite these facts in their proofs.
use Rattle.std.proofs.Common.{◌≡◌, ℕ, ℤ, zero, suc, ◌<◌, ◌<ℤ◌, ◌≤ℤ◌, List, [], ◌∷◌, ◌++◌, length, map, refl, ap, ◌∙◌, arith, length-append}
use Rattle.std.proofs.Math.Path.{subst⁻¹}
use Rattle.std.specs.List.{All, AllByRecursion, AllPairs, flat_map}
use Rattle.std.proofs.lemmas.Int.{ints}
use Rattle.std.proofs.lemmas.List.{append_assoc, length-map}
use Rattle.std.proofs.lemmas.List.Kept.{AllPairs-cons}
use Rattle.tree_spec.specs.declared.TreeKind.TheVariants.{Table}
use Rattle.tree_spec.specs.Trees.{TreeCell, TreeOf, Member, member, between, own_cells, cells_behind, list_of, list_beside, IsFull, IsFullBelow}
use Rattle.tree_spec.specs.Bounds.{RisesIn, BesideIn, InOrder}

pub rises-bounds : (low high : ℤ) (xs : List ℤ) → RisesIn low high xs → low ≤ℤ high
rises-bounds low high [] h = h
rises-bounds low high (x ∷ xs) h = let rest = rises-bounds x high xs h.1 in omega (arith, ints, rest, h.0)

pub rises-append : (low middle high : ℤ) (xs ys : List ℤ) → RisesIn low middle xs → RisesIn middle high ys → RisesIn low high (xs ++ ys)
rises-append low middle high [] [] h k = omega (arith, ints, h, k)
rises-append low middle high [] (y ∷ ys) h k = (omega (arith, ints, h, k.0), k.1)
rises-append low middle high (x ∷ xs) ys h k = (h.0, rises-append x middle high xs ys h.1 k)

abbrev pub rowids : List Member → List ℤ
rowids members = map (λ m. m.rowid) members

rowids-append : (xs ys : List Member) → rowids (xs ++ ys) ≡ rowids xs ++ rowids ys
rowids-append [] ys = refl
rowids-append (x ∷ xs) ys = ap (λ (r : List ℤ). x.rowid ∷ r) (rowids-append xs ys)

cells-rise : (low high : ℤ) (cells : List TreeCell) → RisesIn low high (map (λ (c : TreeCell). c.view.rowid) cells) → RisesIn low high (rowids (map member cells))
cells-rise low high [] h = h
cells-rise low high (c ∷ cs) h = (h.0, cells-rise c.view.rowid high cs h.1)

module _ (levels : ℕ) (below : (low high : ℤ) (tree : TreeOf levels) → InOrder levels low high tree → RisesIn low high (rowids (list_of Table levels tree))) where
  beside-rise : (low high : ℤ) (children : List (TreeOf levels × TreeCell)) (last : TreeOf levels) → BesideIn (InOrder levels) low high children last
      → RisesIn low high (rowids (list_beside Table levels children last))
  beside-rise low high [] last h = below low high last h
  beside-rise low high (child ∷ children) last h =
      let here = list_of Table levels child.0 in
      let rest = list_beside Table levels children last in
      let whole : list_beside Table levels (child ∷ children) last ≡ here ++ rest =
      append_assoc (here ++ []) (flat_map (λ (c : TreeOf levels × TreeCell). list_of Table levels c.0 ++ between Table c.1) children) (list_of Table levels last) ∙ append_assoc here [] rest in
      subst⁻¹ (RisesIn low high) (ap rowids whole ∙ rowids-append here rest)
      (rises-append low child.1.view.rowid high (rowids here) (rowids rest) (below low child.1.view.rowid child.0 h.0) (beside-rise child.1.view.rowid high children last h.1))

-- the rowids of a tree in order rise within its bounds
pub InOrder-rises : (levels : ℕ) (low high : ℤ) (tree : TreeOf levels) → InOrder levels low high tree → RisesIn low high (rowids (list_of Table levels tree))
InOrder-rises zero low high tree h = cells-rise low high tree.cells h
InOrder-rises (suc levels) low high tree h = beside-rise levels (InOrder-rises levels) low high tree.children tree.last h

above : (low high : ℤ) (members : List Member) → RisesIn low high (rowids members) → All (λ (m : Member). low <ℤ m.rowid) members
above low high [] h k d less = absurd (omega arith)
above low high (m ∷ ms) h zero d less = h.0
above low high (m ∷ ms) h (suc k) d less =
    let next = above m.rowid high ms h.1 k d (omega arith) in
    omega (arith, ints, h.0, next)

-- each rowid is below all later ones
pub rises-pairs : (low high : ℤ) (members : List Member) → RisesIn low high (rowids members) → AllPairs (λ (a b : Member). a.rowid <ℤ b.rowid) members
rises-pairs low high [] h = λ i j d less within. absurd (omega arith)
rises-pairs low high (m ∷ ms) h = AllPairs-cons (λ (a b : Member). a.rowid <ℤ b.rowid) m ms (above m.rowid high ms h.1) (rises-pairs m.rowid high ms h.1)

-- a bound above some number is strictly above the one below it
pub rises-strict : (low high : ℤ) (xs : List ℤ) → 0 < length xs → RisesIn low high xs → low <ℤ high
rises-strict low high [] some rises = absurd (omega arith)
rises-strict low high (x ∷ xs) some rises = omega (arith, ints, rises.0, rises-bounds x high xs rises.1)

-- a tree whose pages have cells has members
pub some-members : (levels : ℕ) (tree : TreeOf levels) → IsFull levels tree → 0 < length (list_of Table levels tree)
some-members zero tree full = omega (arith, length-map tree.cells member, full.0)
some-members (suc levels) tree full =
    let front = flat_map (λ (child : TreeOf levels × TreeCell). list_of Table levels child.0 ++ between Table child.1) tree.children in
    omega (arith, length-append front (list_of Table levels tree.last), some-members levels tree.last full.1.1)

-- the rowids of the cells behind children rise within the bounds of the page
pub dividers-rise : (levels : ℕ) (low high : ℤ) (children : List (TreeOf levels × TreeCell)) (last : TreeOf levels) → AllByRecursion (λ child. IsFull levels child.0) children
    → BesideIn (InOrder levels) low high children last → RisesIn low high (map (λ (c : TreeCell). c.view.rowid) (cells_behind children))
dividers-rise levels low high [] last full beside = rises-bounds low high (rowids (list_of Table levels last)) (InOrder-rises levels low high last beside)
dividers-rise levels low high (child ∷ children) last full beside =
    let members = list_of Table levels child.0 in
    let rowid = child.1.view.rowid in (
      rises-strict low rowid (rowids members) (omega (arith, length-map members (λ (m : Member). m.rowid), some-members levels child.0 full.0)) (InOrder-rises levels low rowid child.0 beside.0),
      dividers-rise levels rowid high children last full.1 beside.1,
    )

-- and so do those of a tree's own page
pub own_cells-rise : (levels : ℕ) (low high : ℤ) (tree : TreeOf levels) → IsFullBelow levels tree → InOrder levels low high tree → RisesIn low high (map (λ (c : TreeCell). c.view.rowid) (own_cells levels tree))
own_cells-rise zero low high tree full order = order
own_cells-rise (suc levels) low high tree full order = dividers-rise levels low high tree.children tree.last full.0 order
