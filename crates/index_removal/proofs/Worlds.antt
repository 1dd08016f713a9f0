-- A delete from an index of a world.
use Rattle.std.proofs.Common.{◌≡◌, ℕ, ◌+◌, ◌-◌, ◌*◌, ◌<◌, ◌≤◌, ◌⊎◌, ◌++◌, List, length, refl, subst, inl, inr, arith}
use Rattle.std.proofs.Math.Path.{subst⁻¹}
use Rattle.key_order.specs.declared.order.KeyOrder.{KeyOrder}
use Rattle.key_order.specs.Orders.{HasEqual, IsEntry, IsEqual, IsRising}
use Rattle.key_order.specs.OrdersLaws.{equal-alone, rising-without}
use Rattle.page_spec.specs.Chains.{IsChain}
use Rattle.page_spec.specs.CountsLaws.{times-append}
use Rattle.page_spec.specs.FreePagesLaws.{due_pages-most}
use Rattle.page_spec.specs.Freelists.{Trunk, free_pages}
use Rattle.tree_spec.specs.declared.TreeKind.{TreeKind}
use Rattle.tree_spec.specs.declared.TreeKind.TheVariants.{Index}
use Rattle.tree_spec.specs.declared.fault.TreeFault.{TreeFault}
use Rattle.tree_spec.specs.Faults.{IsFull, IsOther}
use Rattle.tree_spec.specs.Trees.{Rooted, list_in, list_of, member, pages_in, root_of}
use Rattle.tree_spec.specs.Standing.{Sizes, Paged, Stands}
use Rattle.tree_spec.specs.Worlds.{IsFree, IsWorld, greatest_count, with_tree}
use Rattle.tree_spec.specs.WorldsLaws.{world-deep, world-root, world-within}
use Rattle.tree_spec.specs.Changes.{Within}
use Rattle.tree_spec.specs.ChangesLaws.{Turns-within}
use Rattle.put_spec.specs.Steps.{GivesBack}
use Rattle.index_delete_spec.specs.Steps.{DeleteInto, IsReady, RootDone, cell_of as held_of}
use Rattle.index_delete_spec.specs.WorldsLaws.{world-deleted}
use Rattle.tree_pages.specs.Takes.{IsShort}
use Rattle.tree_pages.specs.TakesLaws.{due_pages-least, short-more}
use Rattle.index_cells.specs.declared.cells.Taken.{Taken}
use Rattle.index_cells.specs.Respelling.{cell_of}
use Rattle.index_delete.specs.Needs.{IsShortWhere}
use Rattle.tree_index.specs.Needs.{AreEntries}
use Rattle.index_removal.specs.Deletes.{HasDeleted, IsEqualCell, IsMissing}
use Rattle.index_removal.specs.Needs.{IsFullRootIndex}
use Rattle.index_removal.proofs.Entries.{all-none}

module _ (sizes : Sizes) (order : KeyOrder) (payload : List ℕ) (entry : IsEntry order payload) (front : List Rooted) (old : Rooted) (back : List Rooted) (a : Paged) (p : List Trunk) (world : IsWorld sizes a (with_tree front old back p))
    (kind : old.kind ≡ Index) where
  index-ready : IsReady sizes old.levels a old.tree p
  index-ready = record {
    within = world-within sizes a front old back p world;
    stands = subst (λ (k : TreeKind). Stands sizes a k old.levels old.tree) kind (world-root sizes a front old back p world).stands;
  }

  -- no equal entry stands in the index of this root
  pub world-misses : (root : ℕ) → root_of old ≡ root → IsRising order (list_in old) → IsMissing sizes order payload root a → ¬ HasEqual order payload (list_in old)
  world-misses root is rises missing equal =
      missing old.levels old.tree is index-ready.stands (subst (λ (k : TreeKind). IsRising order (list_of k old.levels old.tree)) kind rises) (subst (λ (k : TreeKind). HasEqual order payload (list_of k old.levels old.tree)) kind equal)

  module _ (row : Taken) (b : Paged) (into : DeleteInto sizes (cell_of row) (root_of old) a b) where
    done : RootDone sizes (cell_of row) old.levels a old.tree p b
    done = into old.levels old.tree p refl world.freelist index-ready

    apart : Within sizes b done.chain done.rest
    apart n = omega (arith, Turns-within sizes a b (pages_in old) (pages_in done.rooted ++ done.chain) p done.rest index-ready.within done.deleted.turns n, times-append n (pages_in done.rooted) done.chain)

    -- The chain that is to be given back stands beside the free pages.
    pub record IsFreed : Type 0 where
      pub chain : List ℕ
      pub trunks : List Trunk
      pub is_chain : IsChain b.pages sizes.size sizes.usable b.count row.view.overflow (row.view.payload - row.view.local) chain
      pub free : IsFree sizes b trunks
      pub within : Within sizes b chain trunks

    pub world-freed : IsFreed
    world-freed = record { chain = done.chain; trunks = done.rest; is_chain = done.deleted.held.1.is_chain; free = done.deleted.turns.freelist world.freelist; within = apart }

    -- the entry is out of the index, and its chain given back
    pub world-removed : (c : Paged) → IsEqualCell sizes order payload row a → GivesBack sizes row.view.overflow (row.view.payload - row.view.local) b c → IsRising order (list_in old) → c.count ≤ greatest_count
        → HasDeleted sizes order payload front old back a c
    world-removed c same gives rises few =
        let cell = held_of (cell_of row) done.payload done.chain in
        let gone = member cell in
        let equal : IsEqual order payload gone = same done.payload done.chain done.deleted.was in
        let freed = gives done.chain done.rest done.deleted.held.1.is_chain (done.deleted.turns.freelist world.freelist) apart in
        let w = world-deleted sizes front old back a b c done.rooted cell p done.rest freed.0 kind world done.deleted freed.1 few in
        let before = w.list.front in
        let behind = w.list.back in
        let rising = subst (IsRising order) w.list.old_is rises in
        record {
          now = w.new;
          trunks = w.trunks;
          world = w.world;
          root = w.root;
          kind_is = w.kind_is;
          gone = gone;
          equal = equal;
          list = w.list;
          rises = subst⁻¹ (IsRising order) w.list.new_is (rising-without order gone before behind rising);
          absent = λ has. all-none order payload entry (before ++ behind) (equal-alone order payload entry gone before behind rising equal) (subst (HasEqual order payload) w.list.new_is has);
          header = w.turns.header;
        }

  -- What is refused in a root's tree is so at the start of the delete.
  pub world-refused : {F : Type 0} (root limit count : ℕ) (fault : TreeFault F) → root_of old ≡ root → AreEntries order (list_in old) → IsShortWhere sizes (IsFullRootIndex order) 24 3 limit root a count fault
      → IsOther fault ⊎ (IsFull count limit fault × (length (free_pages p) + (limit - a.count) < 54))
  world-refused root limit count fault is entries short =
      let deep = world-deep sizes a front old back p world in
      let all = subst (λ (k : TreeKind). AreEntries order (list_of k old.levels old.tree)) kind entries in
      let refused = short old.levels old.tree p (omega (arith, deep)) is ((world-root sizes a front old back p world).full, all) world.freelist index-ready in
      full (short-more sizes limit count fault a p (2 * old.levels + 3) 51 (omega (arith, deep)) refused)
    where
      full : IsShort sizes 51 limit a p count fault → IsOther fault ⊎ (IsFull count limit fault × (length (free_pages p) + (limit - a.count) < 54))
      full (inl other) = inl other
      full (inr room) = inr (room.0, omega (arith, room.1, due_pages-least sizes.size limit, due_pages-most sizes.size a.count))
