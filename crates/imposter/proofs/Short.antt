-- No member of a table that stands has a longer payload than a cell can have.
use Rattle.std.proofs.Common.{◌≡◌, ℕ, zero, suc, ◌+◌, ◌-◌, ◌≤◌, List, [], ◌∷◌, ◌++◌, length, map, take, drop, refl, sym, ap, ◌∙◌, subst, arith}
use Rattle.std.proofs.Math.Path.{subst⁻¹}
use Rattle.std.proofs.lemmas.List.{append-nil, length-append, length-take}
use Rattle.std.specs.List.{AllByRecursion, flat_map}
use Rattle.byte_fields.specs.Bytes.{part_of}
use Rattle.format_spec.specs.declared.PageKind.TheVariants.{TableLeaf}
use Rattle.format_spec.specs.Cell.{payload_limit}
use Rattle.cell_codec.specs.CellLaws.{local_size_within}
use Rattle.page_spec.specs.Chains.{chain_bytes, content_of}
use Rattle.tree_spec.specs.declared.TreeKind.{TreeKind}
use Rattle.tree_spec.specs.declared.TreeKind.TheVariants.{Table}
use Rattle.tree_spec.specs.Trees.{Member, Rooted, TreeCell, TreeOf, between, list_in, list_of, member}
use Rattle.tree_spec.specs.Standing.{Sizes, Paged, HasBelow, IsHeld, StandsBefore}
use Rattle.tree_spec.specs.Worlds.{IsWorld, with_tree}
use Rattle.tree_spec.specs.WorldsLaws.{all-join, world-root}
use Rattle.page_spec.specs.Freelists.{Trunk}

short-take : (n : ℕ) (xs : List ℕ) → length (take n xs) ≤ n
short-take n xs = omega (arith, length-take n xs)

abbrev pub IsShort : Member → Type 0
IsShort m = length m.payload ≤ payload_limit

module _ (sizes : Sizes) (base : Paged) where
  held-short : (cell : TreeCell) → IsHeld sizes base TableLeaf cell → IsShort (member cell)
  held-short cell held =
      let first = part_of cell.bytes cell.view.local_at cell.view.local in
      let rest = chain_bytes base.pages sizes.usable cell.chain (cell.view.payload - cell.view.local) in
      let whole : length cell.payload ≡ length first + length rest = ap length held.whole ∙ length-append first rest in
      let one : length first ≤ cell.view.local = short-take cell.view.local (drop cell.view.local_at cell.bytes) in
      let two : length rest ≤ cell.view.payload - cell.view.local =
      short-take (cell.view.payload - cell.view.local) (flat_map (λ (number : ℕ). content_of sizes.usable (base.pages number)) cell.chain) in
      let within = local_size_within TableLeaf sizes.usable cell.view.payload in
      omega (arith, whole, one, two, within, held.is_cell.local, held.is_cell.limit)

  cells-short : (cells : List TreeCell) → AllByRecursion (IsHeld sizes base TableLeaf) cells → AllByRecursion IsShort (map member cells)
  cells-short [] all = tt
  cells-short (cell ∷ cells) all = (held-short cell all.0, cells-short cells all.1)

  below-short : (levels : ℕ) (tree : TreeOf levels) → HasBelow sizes base Table levels tree → AllByRecursion IsShort (list_of Table levels tree)
  below-short zero tree below = cells-short tree.cells below
  below-short (suc levels) tree below =
      all-join IsShort (flat_map (λ (child : TreeOf levels × TreeCell). list_of Table levels child.0 ++ between Table child.1) tree.children) (list_of Table levels tree.last)
      (children (λ child has. below-short levels child has) tree.children below.0) (below-short levels tree.last below.1.1.1)
    where
      children : ((child : TreeOf levels) → HasBelow sizes base Table levels child → AllByRecursion IsShort (list_of Table levels child)) → (xs : List (TreeOf levels × TreeCell)) → AllByRecursion (StandsBefore sizes base Table levels) xs
          → AllByRecursion IsShort (flat_map (λ (child : TreeOf levels × TreeCell). list_of Table levels child.0 ++ between Table child.1) xs)
      children each [] all = tt
      children each (child ∷ xs) all =
          all-join IsShort (list_of Table levels child.0 ++ []) (flat_map (λ (c : TreeOf levels × TreeCell). list_of Table levels c.0 ++ between Table c.1) xs)
          (all-join IsShort (list_of Table levels child.0) [] (each child.0 all.0.1.1) tt) (children each xs all.1)

  pub members-short : (front : List Rooted) (tree : Rooted) (back : List Rooted) (trunks : List Trunk) → IsWorld sizes base (with_tree front tree back trunks) → tree.kind ≡ Table → AllByRecursion IsShort (list_in tree)
  members-short front tree back trunks world kind =
      let below = (world-root sizes base front tree back trunks world).stands.1 in
      subst⁻¹ (λ (k : TreeKind). AllByRecursion IsShort (list_of k tree.levels tree.tree)) kind
      (below-short tree.levels tree.tree (subst (λ (k : TreeKind). HasBelow sizes base k tree.levels tree.tree) kind below))
