-- The order of a table tree's rowids (Database File Format, section 1.6).
use Rattle.std.specs.Prelude.{ℕ, ℤ, zero, suc, pos, negsuc, ◌^◌, ◌-◌, ◌<ℤ◌, ◌≤ℤ◌, List, [], ◌∷◌, map}
use Rattle.tree_spec.specs.declared.TreeKind.{TreeKind}
use Rattle.tree_spec.specs.declared.TreeKind.TheVariants.{Table, Index}
use Rattle.tree_spec.specs.Trees.{TreeCell, TreeOf}

-- numbers that strictly rise, all above `low` and none above `high`
abbrev pub RisesIn : ℤ → ℤ → List ℤ → Type 0
RisesIn low high [] = low ≤ℤ high
RisesIn low high (x ∷ xs) = (low <ℤ x) × RisesIn x high xs

-- trees beside one another within bounds: the rowid of the cell behind a child is the upper bound of this child and the lower one of all that follows
abbrev pub BesideIn : {Child : Type 0} → (ℤ → ℤ → Child → Type 0) → ℤ → ℤ → List (Child × TreeCell) → Child → Type 0
BesideIn IsIn low high [] last = IsIn low high last
BesideIn IsIn low high (child ∷ children) last = IsIn low child.1.view.rowid child.0 × BesideIn IsIn child.1.view.rowid high children last

-- the rowids of a table tree strictly rise within bounds, and each rowid of an interior page is at least every rowid of its left child and below every rowid to its right
abbrev pub InOrder : (levels : ℕ) → ℤ → ℤ → TreeOf levels → Type 0
InOrder zero low high tree = RisesIn low high (map (λ cell. cell.view.rowid) tree.cells)
InOrder (suc levels) low high tree = BesideIn (InOrder levels) low high tree.children tree.last

-- one less than the least rowid, which is -2^63
abbrev pub below_rowids : ℤ
below_rowids = negsuc (2 ^ 63)

abbrev pub greatest_rowid : ℤ
greatest_rowid = pos (2 ^ 63 - 1)

-- a table's tree is in order of its rowids; the order of an index is a fact of its list
abbrev pub IsOrdered : TreeKind → (levels : ℕ) → TreeOf levels → Type 0
IsOrdered Table levels tree = InOrder levels below_rowids greatest_rowid tree
IsOrdered Index levels tree = Unit {0}
