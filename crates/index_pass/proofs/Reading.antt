-- The index at the root of a world, and what calls over a store refuse behind one that only read.
use Rattle.std.proofs.Common.{◌≡◌, ℕ, List, Result, IfErr, ◌∙◌, subst}
use Rattle.page_spec.specs.Freelists.{Trunk}
use Rattle.page_spec.specs.Pages.{Pages}
use Rattle.page_store.specs.declared.store.PageRead.{Ghosts}
use Rattle.prepared_spec.specs.declared.violation.Change.{Change}
use Rattle.tree_spec.specs.declared.TreeKind.{TreeKind}
use Rattle.tree_spec.specs.declared.TreeKind.TheVariants.{Index as IndexTree}
use Rattle.tree_spec.specs.Trees.{Rooted, depth_of, list_in, pages_in, root_of}
use Rattle.tree_spec.specs.Standing.{Sizes, Paged, IsTree}
use Rattle.tree_spec.specs.Worlds.{World, IsWorld, with_tree}
use Rattle.tree_spec.specs.WorldsLaws.{world-tree}
use Rattle.tree_pages.specs.Writers.{paged, sizes_of}
use Rattle.pass_fault.specs.declared.fault.PassFault.{PassFault}
use Rattle.index_pass.specs.declared.target.Target.{Target}
use Rattle.index_pass.specs.Changes.{IsEntryFault, RefusesRecord}

-- an index of a world stands at its root
pub index-stands : (sizes : Sizes) (base : Paged) (root : ℕ) (front : List Rooted) (tree : Rooted) (back : List Rooted) (trunks : List Trunk) → IsWorld sizes base (with_tree front tree back trunks) → tree.kind ≡ IndexTree → root_of tree ≡ root
    → IsTree sizes base root IndexTree (depth_of tree) (list_in tree) (pages_in tree)
index-stands sizes base root front tree back trunks world kind is =
    subst (λ (k : TreeKind). IsTree sizes base root k (depth_of tree) (list_in tree) (pages_in tree)) kind
    (subst (λ (r : ℕ). IsTree sizes base r tree.kind (depth_of tree) (list_in tree) (pages_in tree)) is (world-tree sizes base front tree back trunks world))

module _ {P F : Type 0} (g : Ghosts P F) (a b : P) (sizes : sizes_of g b ≡ sizes_of g a) (count : g.count b ≡ g.count a) where
  abbrev In : {T : Type 0} → Result T (PassFault F) → Pages → World → (Sizes → Paged → PassFault F → Type 0) → Sizes → ℕ → Type 0
  In result m world Is z n = IsWorld z (record { count = n; pages = m }) world → IfErr result (Is z (record { count = n; pages = m }))

  -- a world of what was read is one of what stood before
  pub read-world : {T : Type 0} (result : Result T (PassFault F)) (m : Pages) (world : World) (Is : Sizes → Paged → PassFault F → Type 0) → (IsWorld (sizes_of g b) (paged g b m) world → IfErr result (Is (sizes_of g b) (paged g b m)))
      → IsWorld (sizes_of g a) (paged g a m) world → IfErr result (Is (sizes_of g a) (paged g a m))
  read-world result m world Is told = subst (λ (z : Sizes). In result m world Is z (g.count a)) sizes (subst (λ (n : ℕ). In result m world Is (sizes_of g b) n) count told)

  pub record-read : {T : Type 0} (c : P) → g.pages b ≡ g.pages a → (result : Result T (PassFault F)) (target : Target) (change : Change) (payload : List ℕ) → RefusesRecord g target change payload b c result
      → RefusesRecord g target change payload a c result
  record-read c same result target change payload refuses = λ m front tree back trunks told world kind root rises.
      read-world result m (with_tree front tree back trunks) (λ z base fault. IsEntryFault z target base trunks change payload (g.count c) fault) (λ there. refuses m front tree back trunks (same ∙ told) there kind root rises) world
