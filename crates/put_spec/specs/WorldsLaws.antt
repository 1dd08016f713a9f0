-- A put in a world: crates above cite these facts in their proofs.
use Rattle.std.proofs.Common.{◌≡◌, ℕ, ℤ, ◌≤◌, ◌<ℤ◌, ◌≤ℤ◌, List, [], ◌++◌, arith, refl}
use Rattle.std.proofs.Math.Path.{subst⁻¹}
use Rattle.page_spec.specs.Freelists.{Trunk}
use Rattle.tree_spec.specs.declared.TreeKind.{TreeKind}
use Rattle.tree_spec.specs.declared.TreeKind.TheVariants.{Table, Index}
use Rattle.page_spec.specs.Counts.{times}
use Rattle.page_spec.specs.CountsLaws.{times-append}
use Rattle.tree_spec.specs.Trees.{TreeCell, TreeOf, Rooted, leaf_kind, pages_in, root_of}
use Rattle.tree_spec.specs.Bounds.{IsOrdered, below_rowids, greatest_rowid}
use Rattle.tree_spec.specs.Standing.{Sizes, Paged, IsHeld}
use Rattle.tree_spec.specs.StandingLaws.{IsRoot-kept, Stands-kept}
use Rattle.tree_spec.specs.Worlds.{greatest_count, with_tree, IsWorld}
use Rattle.tree_spec.specs.WorldsLaws.{world-root, world-within}
use Rattle.tree_spec.specs.Changes.{Turns}
use Rattle.tree_spec.specs.ChangesLaws.{Turns-then, Turns-wide, Turns-within, Turns-keeps, world-after}
use Rattle.put_spec.specs.Steps.{spelled, PutAt, GivesBack, IsWorldPut}
use Rattle.put_spec.specs.Puts.{InBounds, HasRowid, before_of, IsReady, IsRootPut}

ordered-bounds : (kind : TreeKind) (levels : ℕ) (tree : TreeOf levels) → IsOrdered kind levels tree → InBounds kind levels below_rowids greatest_rowid tree
ordered-bounds Table levels tree ordered = ordered
ordered-bounds Index levels tree ordered = tt

bounds-ordered : (kind : TreeKind) (levels : ℕ) (tree : TreeOf levels) → InBounds kind levels below_rowids greatest_rowid tree → IsOrdered kind levels tree
bounds-ordered Table levels tree bounds = bounds
bounds-ordered Index levels tree bounds = tt

-- a put keeps the order of a tree
put-ordered : (kind : TreeKind) (levels : ℕ) (old : TreeOf levels) (new : Rooted) (cell : TreeCell) → HasRowid kind cell → new.kind ≡ kind
    → ((low high : ℤ) → low <ℤ cell.view.rowid → cell.view.rowid ≤ℤ high → InBounds kind levels low high old → InBounds kind new.levels low high new.tree)
    → IsOrdered kind levels old → IsOrdered new.kind new.levels new.tree
put-ordered Table levels old new cell rowid same grown ordered =
    subst⁻¹ (λ (k : TreeKind). IsOrdered k new.levels new.tree) same (grown below_rowids greatest_rowid rowid.0 rowid.1 ordered)
put-ordered Index levels old new cell rowid same grown ordered = subst⁻¹ (λ (k : TreeKind). IsOrdered k new.levels new.tree) same tt

module _ (sizes : Sizes) (front : List Rooted) (old : Rooted) (back : List Rooted) (cell : TreeCell) where
  -- In a world, once the chain of a cell is written, a put of that cell may begin.
  pub world-ready : (a b : Paged) (p q : List Trunk) → IsWorld sizes a (with_tree front old back p) → Turns sizes a [] p b cell.chain q → IsHeld sizes b (leaf_kind old.kind) cell
      → IsReady sizes old.kind old.levels (before_of old b q cell)
  world-ready a b p q world written held =
      let within = world-within sizes a front old back p world in
      let wide = Turns-wide sizes a b [] cell.chain (pages_in old) (pages_in old ++ cell.chain) p q (λ n. times n (pages_in old)) (λ n. omega arith) (λ n. omega (arith, times-append n (pages_in old) cell.chain)) written in
      record {
        within = Turns-within sizes a b (pages_in old) (pages_in old ++ cell.chain) p q within wide;
        stands = Stands-kept sizes a b old.kind old.levels old.tree (Turns-keeps sizes a b [] cell.chain p q (pages_in old) (λ n. omega (arith, within n)) written) (world-root sizes a front old back p world).stands;
        held = held;
      }

  -- The chain of a cell is written, the cell is put, and the chain of the cell that it replaced is given back: one tree has the cell too, and all others are as they were.
  pub world-put : (a b c d : Paged) (new : Rooted) (first bytes : ℕ) (gone : List ℕ) (p q r s : List Trunk) → IsWorld sizes a (with_tree front old back p) → Turns sizes a [] p b cell.chain q
      → HasRowid old.kind cell → IsRootPut sizes old.kind old.levels (before_of old b q cell) c new first bytes gone r → Turns sizes c gone r d [] s → d.count ≤ greatest_count
      → IsWorld sizes d (with_tree front new back s)
  world-put a b c d new first bytes gone p q r s world written rowid put freed few =
      let hand = pages_in old ++ cell.chain in
      let later = pages_in new ++ gone in
      let within = world-within sizes a front old back p world in
      let root = world-root sizes a front old back p world in
      let one = Turns-wide sizes a b [] cell.chain (pages_in old) hand p q (λ n. times n (pages_in old)) (λ n. omega arith) (λ n. omega (arith, times-append n (pages_in old) cell.chain)) written in
      let within_b = Turns-within sizes a b (pages_in old) hand p q within one in
      let within_c = Turns-within sizes b c hand later q r within_b put.turns in
      let three = Turns-wide sizes c d gone [] later (pages_in new) r s (λ n. times n (pages_in new)) (λ n. omega (arith, times-append n (pages_in new) gone)) (λ n. omega arith) freed in
      let all = Turns-then sizes a b d (pages_in old) hand (pages_in new) p q s within one (Turns-then sizes b c d hand later (pages_in new) q r s within_b put.turns three) in
      let keeps = Turns-keeps sizes c d gone [] r s (pages_in new) (λ n. omega (arith, within_c n, times-append n (pages_in new) gone)) freed in
      world-after sizes a d front back old new p s world all
      (
      IsRoot-kept sizes c d new keeps
      (record {
        stands = put.stands;
        ordered = put-ordered old.kind old.levels old.tree new cell rowid put.kind_is put.bounds root.ordered;
        full = put.full root.full;
      })
      )
      put.root few

  -- The same of what a writer did: the chain was written, the cell was put below the root's page, and the chain of the cell that it replaced was given back.
  pub put-in-world : (a b c d : Paged) (first bytes : ℕ) (p q : List Trunk) → IsWorld sizes a (with_tree front old back p) → Turns sizes a [] p b cell.chain q → IsHeld sizes b (leaf_kind old.kind) cell
      → HasRowid old.kind cell → PutAt sizes old.kind old.levels (root_of old) (spelled cell) b c first bytes → GivesBack sizes first bytes c d → d.count ≤ greatest_count
      → IsWorldPut sizes front old back cell d
  put-in-world a b c d first bytes p q world written held rowid put freed few =
      let ready = world-ready a b p q world written held in
      let done = put old.tree q cell.payload cell.chain refl (written.freelist world.freelist) ready in
      let within = Turns-within sizes b c (pages_in old ++ cell.chain) (pages_in done.rooted ++ done.chain) q done.trunks ready.within done.put.turns in
      let free = done.put.turns.freelist (written.freelist world.freelist) in
      let given = freed done.chain done.trunks done.put.freed free (λ n. omega (arith, within n, times-append n (pages_in done.rooted) done.chain)) in
      record {
        new = done.rooted;
        trunks = given.0;
        world = world-put a b c d done.rooted first bytes done.chain p q done.trunks given.0 world written rowid done.put given.1 few;
        root = done.put.root;
        kind_is = done.put.kind_is;
        list = done.put.list;
      }
