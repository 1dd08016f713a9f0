-- A delete from an index in its world: crates above cite these facts in their proofs.
use Rattle.std.proofs.Common.{◌≡◌, ℕ, ◌+◌, ◌-◌, ◌≤◌, max, List, [], ◌++◌, length, refl, ap, ◌∙◌, subst, arith}
use Rattle.std.proofs.Math.Path.{subst⁻¹}
use Rattle.byte_fields.specs.Bytes.{part_of}
use Rattle.page_spec.specs.Chains.{chain_bytes}
use Rattle.page_spec.specs.ChainsLaws.{same_chain}
use Rattle.page_spec.specs.Freelists.{Trunk}
use Rattle.page_spec.specs.Counts.{times}
use Rattle.page_spec.specs.CountsLaws.{times-append}
use Rattle.tree_spec.specs.declared.TreeKind.{TreeKind}
use Rattle.tree_spec.specs.declared.TreeKind.TheVariants.{Index}
use Rattle.tree_spec.specs.Trees.{TreeCell, Member, Rooted, member, pages_in, list_of, root_of}
use Rattle.tree_spec.specs.Bounds.{IsOrdered}
use Rattle.tree_spec.specs.Standing.{Sizes, Paged, Stands}
use Rattle.tree_spec.specs.StandingLaws.{Stands-kept}
use Rattle.tree_spec.specs.Worlds.{greatest_count, with_tree, IsWorld, slack}
use Rattle.tree_spec.specs.WorldsLaws.{world-root, world-within}
use Rattle.tree_spec.specs.Changes.{Turns}
use Rattle.tree_spec.specs.ChangesLaws.{Turns-then, Turns-wide, Turns-within, Turns-keeps, world-after, slack-kept}
use Rattle.put_spec.specs.Steps.{Spelled, spelled, GivesBack}
use Rattle.delete_spec.specs.Deletes.{TakenOut}
use Rattle.delete_spec.specs.Steps.{IsPayload}
use Rattle.index_delete_spec.specs.Deletes.{IsOut, IsRootDeleted, IsWorldDeleted}
use Rattle.index_delete_spec.specs.Steps.{cell_of, DeleteInto}

-- whatever chain a cell that is held is read by, its payload is the same
pub out-payload : (sizes : Sizes) (base : Paged) (cell : TreeCell) → IsOut sizes base cell → IsPayload sizes base (spelled cell) cell.payload
out-payload sizes base cell out chain is =
    let rest = cell.view.payload - cell.view.local in
    out.1.whole
    ∙ ap (λ (pages : List ℕ). part_of cell.bytes cell.view.local_at cell.view.local ++ chain_bytes base.pages sizes.usable pages rest)
    (same_chain base.pages sizes.size base.count sizes.usable cell.view.overflow rest cell.chain chain out.1.is_chain is)

module _ (sizes : Sizes) (front : List Rooted) (old : Rooted) (back : List Rooted) where
  -- An entry is taken out of the tree of a root, and the overflow chain of its cell is given back: the world holds again, and all other trees are as they were.
  pub world-deleted : (a b c : Paged) (new : Rooted) (out : TreeCell) (p q r : List Trunk) → old.kind ≡ Index → IsWorld sizes a (with_tree front old back p)
      → IsRootDeleted sizes old.levels a old.tree p b new out q → Turns sizes b out.chain q c [] r → c.count ≤ greatest_count → IsWorldDeleted sizes (member out) front old back a p c
  world-deleted a b c new out p q r index world deleted freed few =
      let within = world-within sizes a front old back p world in
      let root = world-root sizes a front old back p world in
      let chain = out.chain in
      let within_b = Turns-within sizes a b (pages_in old) (pages_in new ++ chain) p q within deleted.turns in
      let count = λ (n : ℕ). times-append n (pages_in new) chain in
      let turns = Turns-then sizes a b c (pages_in old) (pages_in new ++ chain) (pages_in new) p q r within deleted.turns
      (Turns-wide sizes b c chain [] (pages_in new ++ chain) (pages_in new) q r (λ n. times n (pages_in new)) (λ n. omega (arith, count n)) (λ n. omega arith) freed) in
      let keeps = Turns-keeps sizes b c chain [] q r (pages_in new) (λ n. omega (arith, within_b n, count n)) freed in
      record {
        new = new;
        trunks = r;
        world = world-after sizes a c front back old new p r world turns
            (record {
              stands = Stands-kept sizes b c new.kind new.levels new.tree keeps deleted.stands;
              ordered = subst⁻¹ (λ (k : TreeKind). IsOrdered k new.levels new.tree) deleted.kind_is tt;
              full = deleted.full root.full;
            })
            deleted.root few;
        root = deleted.root;
        kind_is = deleted.kind_is;
        list = subst⁻¹ (λ (k : TreeKind). TakenOut (member out) (list_of k old.levels old.tree) (list_of new.kind new.levels new.tree)) index deleted.list;
        turns = turns;
      }

  -- As many pages as the tree has no longer can be taken again.
  pub deleted-slack : (gone : Member) (a c : Paged) (p : List Trunk) (limit : ℕ) → IsWorld sizes a (with_tree front old back p) → (is : IsWorldDeleted sizes gone front old back a p c) → c.count ≤ max limit a.count
      → slack sizes c limit is.trunks + length (pages_in is.new) ≡ slack sizes a limit p + length (pages_in old)
  deleted-slack gone a c p limit world is most = slack-kept sizes a c (pages_in old) (pages_in is.new) p is.trunks limit (world-within sizes a front old back p world) is.turns most

  -- What a writer did at a root is a delete in its world, once the overflow chain of the cell that was taken out is given back: one entry is out of the list, whose payload is what that cell says.
  pub delete-in-world : (a b c : Paged) (p : List Trunk) (out : Spelled) → old.kind ≡ Index → IsWorld sizes a (with_tree front old back p)
      → DeleteInto sizes out (root_of old) a b → GivesBack sizes out.view.overflow (out.view.payload - out.view.local) b c → c.count ≤ greatest_count
      → (gone : Member) × (gone.rowid ≡ out.view.rowid) × IsPayload sizes a out gone.payload × IsWorldDeleted sizes gone front old back a p c
  delete-in-world a b c p out index world at given few =
      let within = world-within sizes a front old back p world in
      let root = world-root sizes a front old back p world in
      let stands = subst (λ (k : TreeKind). Stands sizes a k old.levels old.tree) index root.stands in
      let done = at old.levels old.tree p refl world.freelist (record { within = within; stands = stands }) in
      let cell = cell_of out done.payload done.chain in
      let held = done.deleted.held.1 in
      let later = Turns-within sizes a b (pages_in old) (pages_in done.rooted ++ done.chain) p done.rest within done.deleted.turns in
      let freed = given done.chain done.rest held.is_chain (done.deleted.turns.freelist world.freelist)
      (λ n. omega (arith, later n, times-append n (pages_in done.rooted) done.chain)) in
      (member cell, refl, out-payload sizes a cell done.deleted.was, world-deleted a b c done.rooted cell p done.rest freed.0 index world done.deleted freed.1 few)
