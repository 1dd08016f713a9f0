-- An entry put into an index of a world.
use Rattle.std.proofs.Common.{◌≡◌, ℕ, pos, ◌+◌, ◌*◌, ◌≤◌, List, [], ◌∷◌, ◌++◌, max, refl, sym, ap, ◌∙◌, subst, arith}
use Rattle.std.proofs.Math.Path.{subst⁻¹}
use Rattle.std.specs.List.{Contains}
use Rattle.std.proofs.lemmas.List.Elements.{All-contains, All-from_recursion}
use Rattle.key_order.specs.declared.order.KeyOrder.{KeyOrder}
use Rattle.key_order.specs.Orders.{HasEqual, IsEntry, IsEqual, IsRising}
use Rattle.key_order.specs.OrdersLaws.{place-alone, rising-put}
use Rattle.page_spec.specs.Chains.{IsChain}
use Rattle.page_spec.specs.ChainsLaws.{same_chain}
use Rattle.page_spec.specs.Counts.{times}
use Rattle.page_spec.specs.Freelists.{Trunk}
use Rattle.tree_spec.specs.declared.TreeKind.{TreeKind}
use Rattle.tree_spec.specs.declared.TreeKind.TheVariants.{Table, Index}
use Rattle.tree_spec.specs.declared.fault.TreeFault.{TreeFault}
use Rattle.tree_spec.specs.Trees.{Member, Rooted, TreeOf, list_in, list_of, member, page_of, pages_of, root_of}
use Rattle.tree_spec.specs.Standing.{Sizes, Paged, Stands}
use Rattle.tree_spec.specs.StandingLaws.{chain-none}
use Rattle.tree_spec.specs.Worlds.{IsWorld, greatest_count, with_tree}
use Rattle.tree_spec.specs.WorldsLaws.{world-deep, world-root, world-within}
use Rattle.tree_spec.specs.Changes.{Turns, Within}
use Rattle.tree_spec.specs.ChangesLaws.{Turns-same}
use Rattle.put_spec.specs.WorldsLaws.{world-put}
use Rattle.tree_pages.specs.Takes.{IsShort}
use Rattle.tree_pages.specs.TakesLaws.{short-more}
use Rattle.tree_index.specs.declared.putting.Inserted.{Inserted}
use Rattle.tree_index.specs.declared.putting.Inserted.TheVariants as inserted
use Rattle.tree_index.specs.Needs.{AreEntries, IsShortUnder}
use Rattle.tree_index.specs.Puts.{EntersInto, HasPut, IsEntered, OfWorlds, PutsEntry, PutsRoot}

module _ (sizes : Sizes) (order : KeyOrder) (payload : List ℕ) (entry : IsEntry order payload) (front : List Rooted) (levels : ℕ) (tree : TreeOf levels) (back : List Rooted) (a c : Paged) (trunks : List Trunk) where
  abbrev old : Rooted
  old = record { kind = Index; levels = levels; tree = tree }

  -- a chain of no bytes has no pages
  no-chain : (chain : List ℕ) → IsChain c.pages sizes.size sizes.usable c.count 0 0 chain → chain ≡ []
  no-chain chain is = same_chain c.pages sizes.size c.count sizes.usable 0 0 chain [] is (chain-none sizes c)

  pub world-entered : IsWorld sizes a (with_tree front old back trunks) → IsRising order (list_in old) → c.count ≤ greatest_count → IsEntered sizes order payload levels tree trunks a (PutsRoot sizes order payload levels c)
      → HasPut sizes order payload front old back a c
  world-entered world rises few e =
      let done = e.put.done in
      let new = done.rooted in
      let chain = no-chain done.chain done.put.freed in
      let same : Turns sizes c done.chain done.trunks c [] done.trunks = Turns-same sizes c done.chain [] done.trunks (λ n. ap (times n) (sym chain)) in
      let rising : IsRising order (e.front ++ e.back) = subst (IsRising order) e.list rises in
      let put : member e.cell ≡ record { rowid = pos 0; payload = payload } = λ i. record { rowid = e.held.is_cell.rowid i; payload = e.payload_is i } in
      let list : list_in new ≡ e.front ++ (record { rowid = pos 0; payload = payload }) ∷ e.back = e.put.list ∙ ap (λ (m : Member). e.front ++ m ∷ e.back) put in
      record {
        now = new;
        trunks = done.trunks;
        world = world-put sizes front old back e.cell a e.mid c c new 0 0 done.chain trunks e.rest done.trunks done.trunks world e.written tt done.put same few;
        root = done.put.root;
        kind_is = done.put.kind_is;
        less = e.front;
        greater = e.back;
        list_was = e.list;
        list_is = list;
        rises = subst⁻¹ (IsRising order) list (rising-put order payload entry (record { rowid = pos 0; payload = payload }) e.front e.back refl rising e.low e.high);
        absent = λ equal.
            All-contains (λ (m : Member). ¬ IsEqual order payload m) (e.front ++ e.back) equal.0
            (All-from_recursion (λ (m : Member). ¬ IsEqual order payload m) (e.front ++ e.back) (place-alone order payload entry e.front e.back rising e.low e.high))
            (subst (λ (l : List Member). Contains l equal.0) e.list equal.1) equal.2;
        header = λ k before apart. done.put.turns.header k before apart ∙ e.written.header k before apart;
      }

-- what was put into the tree at a root is put into an index of a world
pub world-puts : (sizes : Sizes) (order : KeyOrder) (payload : List ℕ) (root limit : ℕ) (result : Inserted) (a c : Paged) → IsEntry order payload → c.count ≤ max limit a.count → EntersInto sizes order payload root result a c
    → PutsEntry sizes root order payload limit result a c
world-puts sizes order payload root limit inserted.New a c entry most enters = new
  where
    new : OfWorlds sizes root order limit a (λ front index back. HasPut sizes order payload front index back a c)
    new front index back trunks world kind is rises low =
        by index.kind kind index.levels index.tree world is rises (world-within sizes a front index back trunks world) (world-root sizes a front index back trunks world).stands (omega (arith, most, low, world.few))
      where
        by : (k : TreeKind) → k ≡ Index → (levels : ℕ) (tree : TreeOf levels) → IsWorld sizes a (with_tree front (record { kind = k; levels = levels; tree = tree }) back trunks) → page_of levels tree ≡ root
            → IsRising order (list_of k levels tree) → Within sizes a (pages_of levels tree) trunks → Stands sizes a k levels tree → c.count ≤ greatest_count
            → HasPut sizes order payload front (record { kind = k; levels = levels; tree = tree }) back a c
        by Table same levels tree world is rises within stands few = absurd (let no : ⊥ = cc in no)
        by Index same levels tree world is rises within stands few =
            world-entered sizes order payload entry front levels tree back a c trunks world rises few (enters levels tree trunks is stands world.freelist within rises)
world-puts sizes order payload root limit inserted.Present a c entry most (same, finds) = (same, equal)
  where
    equal : OfWorlds sizes root order limit a (λ front index back. HasEqual order payload (list_in index))
    equal front index back trunks world kind is rises low = by index.kind kind index.levels index.tree is rises (world-within sizes a front index back trunks world) (world-root sizes a front index back trunks world).stands
      where
        by : (k : TreeKind) → k ≡ Index → (levels : ℕ) (tree : TreeOf levels) → page_of levels tree ≡ root → IsRising order (list_of k levels tree) → Within sizes a (pages_of levels tree) trunks
            → Stands sizes a k levels tree → HasEqual order payload (list_of k levels tree)
        by Table same levels tree is rises within stands = absurd (let no : ⊥ = cc in no)
        by Index same levels tree is rises within stands = finds levels tree trunks is stands world.freelist within rises

-- A put into an index of entries of a world is refused only where fewer pages than it needs could be taken at its start.
pub world-short : {F : Type 0} (sizes : Sizes) (order : KeyOrder) (front : List Rooted) (index : Rooted) (back : List Rooted) (a : Paged) (trunks : List Trunk) (limit more count : ℕ) (fault : TreeFault F)
    → IsWorld sizes a (with_tree front index back trunks) → index.kind ≡ Index → AreEntries order (list_in index) → IsShortUnder sizes order 24 (3 + more) limit (root_of index) a count fault
    → IsShort sizes (51 + more) limit a trunks count fault
world-short sizes order front index back a trunks limit more count fault world kind entries short =
    let deep = world-deep sizes a front index back trunks world in
    let stands = subst (λ (k : TreeKind). Stands sizes a k index.levels index.tree) kind (world-root sizes a front index back trunks world).stands in
    let all = subst (λ (k : TreeKind). AreEntries order (list_of k index.levels index.tree)) kind entries in
    let within = world-within sizes a front index back trunks world in
    short-more sizes limit count fault a trunks (2 * index.levels + (3 + more)) (51 + more) (omega (arith, deep))
    (short index.levels index.tree trunks (omega (arith, deep)) refl stands all world.freelist within)
