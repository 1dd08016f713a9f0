-- A row put into a table of a world.
use Rattle.std.proofs.Common.{◌≡◌, ℕ, ℤ, ◌+◌, ◌*◌, ◌≤◌, ◌<ℤ◌, ◌≤ℤ◌, List, [], ◌++◌, length, max, Result, Ok, Err, OnOk, refl, ◌∙◌, subst, arith}
use Rattle.std.proofs.Math.Path.{subst⁻¹}
use Rattle.std.proofs.lemmas.Int.{ints}
use Rattle.std.specs.Int.{w64}
use Rattle.std.specs.Int.RustNames.{FitsSigned}
use Rattle.page_spec.specs.CountsLaws.{times-append}
use Rattle.page_spec.specs.Chains.{IsChain}
use Rattle.page_spec.specs.Freelists.{Trunk}
use Rattle.tree_spec.specs.declared.TreeKind.{TreeKind}
use Rattle.tree_spec.specs.declared.TreeKind.TheVariants.{Table}
use Rattle.tree_spec.specs.Trees.{Rooted, TreeCell, leaf_kind, list_in, member, pages_in, root_of}
use Rattle.tree_spec.specs.Bounds.{InOrder, IsOrdered, below_rowids, greatest_rowid}
use Rattle.tree_spec.specs.declared.fault.TreeFault.{TreeFault}
use Rattle.tree_spec.specs.Standing.{Sizes, Paged, IsHeld, Stands}
use Rattle.tree_spec.specs.Worlds.{IsFree, IsWorld, greatest_count, with_tree}
use Rattle.tree_spec.specs.WorldsLaws.{world-deep, world-root}
use Rattle.tree_spec.specs.Changes.{SameHeader, Within}
use Rattle.tree_spec.specs.ChangesLaws.{Turns-within, free-within, slack-kept}
use Rattle.put_spec.specs.Children.{PutIn}
use Rattle.put_spec.specs.Puts.{HasRowid, before_of}
use Rattle.put_spec.specs.Steps.{GivesBack, PutAt, RootDone, spelled}
use Rattle.put_spec.specs.WorldsLaws.{put-in-world, world-ready}
use Rattle.tree_pages.specs.Takes.{IsShort}
use Rattle.tree_pages.specs.TakesLaws.{short-more, short-then}
use Rattle.tree_table.specs.Needs.{IsShortUnder, overflow_pages}
use Rattle.tree_table.specs.Puts.{HasRow, HasPut, PutsTable}

pub on-ok_both : {T E : Type 0} (P Q : Type 0) (result : Result T E) → OnOk result P → OnOk result Q → OnOk result (P × Q)
on-ok_both P Q (Ok x) one two = (one, two)
on-ok_both P Q (Err e) one two = tt

-- an overflow chain stands beside the free pages
pub record IsFreed (sizes : Sizes) (first bytes : ℕ) (base : Paged) : Type 0 where
  pub chain : List ℕ
  pub trunks : List Trunk
  pub is_chain : IsChain base.pages sizes.size sizes.usable base.count first bytes chain
  pub free : IsFree sizes base trunks
  pub within : Within sizes base chain trunks

-- a rowid has 64 bits
pub rowid-bounds : (rowid : ℤ) → FitsSigned w64 rowid → (below_rowids <ℤ rowid) × (rowid ≤ℤ greatest_rowid)
rowid-bounds rowid fits = (omega (arith, ints), omega (arith, ints))

module _ (sizes : Sizes) (front : List Rooted) (old : Rooted) (back : List Rooted) (a b c : Paged) (p : List Trunk) (rowid : ℤ) (payload bytes : List ℕ) (first count : ℕ)
    (world : IsWorld sizes a (with_tree front old back p)) (kind : old.kind ≡ Table) (row : HasRow sizes rowid payload bytes a p b) (low : below_rowids <ℤ rowid) (high : rowid ≤ℤ greatest_rowid)
    (into : PutsTable sizes (root_of old) rowid bytes first count b c) where
  abbrev cell : TreeCell
  cell = record { bytes = bytes; view = row.view; payload = payload; chain = row.chain }

  is-held : IsHeld sizes b (leaf_kind old.kind) cell
  is-held = subst⁻¹ (λ (k : TreeKind). IsHeld sizes b (leaf_kind k) cell) kind row.held

  has-rowid : HasRowid old.kind cell
  has-rowid = subst⁻¹ (λ (k : TreeKind). HasRowid k cell) kind (subst⁻¹ (λ (r : ℤ). below_rowids <ℤ r) row.rowid_is low, subst⁻¹ (λ (r : ℤ). r ≤ℤ greatest_rowid) row.rowid_is high)

  ordered : InOrder old.levels below_rowids greatest_rowid old.tree
  ordered = subst (λ (k : TreeKind). IsOrdered k old.levels old.tree) kind (world-root sizes a front old back p world).ordered

  is-put : PutAt sizes old.kind old.levels (root_of old) (spelled cell) b c first count
  is-put =
      let stands = subst (λ (k : TreeKind). Stands sizes b k old.levels old.tree) kind (world-ready sizes front old back cell a b p row.rest world row.turns is-held).stands in
      subst⁻¹ (λ (k : TreeKind). PutAt sizes k old.levels (root_of old) (spelled cell) b c first count) kind
      (into old.levels old.tree below_rowids greatest_rowid row.view refl stands ordered row.held.is_cell row.rowid_is)

  is-done : RootDone sizes old.kind old.levels (before_of old b row.rest cell) c first count
  is-done = is-put old.tree row.rest payload row.chain refl (row.turns.freelist world.freelist) (world-ready sizes front old back cell a b p row.rest world row.turns is-held)

  -- the chain that is to be given back stands beside the free pages
  pub world-freed : IsFreed sizes first count c
  world-freed =
      let ready = world-ready sizes front old back cell a b p row.rest world row.turns is-held in
      let within = Turns-within sizes b c (pages_in old ++ row.chain) (pages_in is-done.rooted ++ is-done.chain) row.rest is-done.trunks ready.within is-done.put.turns in
      record {
        chain = is-done.chain;
        trunks = is-done.trunks;
        is_chain = is-done.put.freed;
        free = is-done.put.turns.freelist (row.turns.freelist world.freelist);
        within = λ n. omega (arith, within n, times-append n (pages_in is-done.rooted) is-done.chain);
      }

  module _ (d : Paged) (gives : GivesBack sizes first count c d) where
    same-header : SameHeader (a.pages 1) (d.pages 1)
    same-header =
        let freed = world-freed in
        let given = gives freed.chain freed.trunks freed.is_chain freed.free freed.within in
        λ k before apart. given.1.header k before apart ∙ is-done.put.turns.header k before apart ∙ row.turns.header k before apart

    pub world-row : d.count ≤ greatest_count → HasPut sizes front old back (record { rowid = rowid; payload = payload }) a d
    world-row few =
        let w = put-in-world sizes front old back cell a b c d first count p row.rest world row.turns is-held has-rowid is-put gives few in
        record {
          now = w.new;
          trunks = w.trunks;
          world = w.world;
          root = w.root;
          kind_is = w.kind_is ∙ kind;
          list = subst (λ (r : ℤ). PutIn Table (record { rowid = r; payload = payload }) (list_in old) (list_in w.new)) row.rowid_is
              (subst (λ (k : TreeKind). PutIn k (member cell) (list_in old) (list_in w.new)) kind w.list);
          header = same-header;
        }

-- Once the cell is made, a put into a table of a world is refused only where fewer pages than it needs could be taken at its start.
pub world-short : {F : Type 0} (sizes : Sizes) (front : List Rooted) (old : Rooted) (back : List Rooted) (a b : Paged) (p : List Trunk) (rowid : ℤ) (payload bytes : List ℕ) (limit count : ℕ) (fault : TreeFault F)
    → IsWorld sizes a (with_tree front old back p) → old.kind ≡ Table → HasRow sizes rowid payload bytes a p b → b.count ≤ max limit a.count → IsShortUnder sizes 24 3 limit (root_of old) b count fault
    → IsShort sizes (51 + overflow_pages sizes.usable (length payload)) limit a p count fault
world-short sizes front old back a b p rowid payload bytes limit count fault world kind row limited short =
    let cell : TreeCell = record { bytes = bytes; view = row.view; payload = payload; chain = row.chain } in
    let held : IsHeld sizes b (leaf_kind old.kind) cell = subst⁻¹ (λ (k : TreeKind). IsHeld sizes b (leaf_kind k) cell) kind row.held in
    let ready = world-ready sizes front old back cell a b p row.rest world row.turns held in
    let deep = world-deep sizes a front old back p world in
    let stands = subst (λ (k : TreeKind). Stands sizes b k old.levels old.tree) kind ready.stands in
    let refused = short old.levels old.tree row.rest (omega (arith, deep)) refl stands (row.turns.freelist world.freelist) (λ n. omega (arith, ready.within n, times-append n (pages_in old) row.chain)) in
    let kept = slack-kept sizes a b [] row.chain p row.rest limit (free-within sizes a p world.freelist) row.turns limited in
    short-more sizes limit count fault a p (length row.chain + (2 * old.levels + 3)) (51 + overflow_pages sizes.usable (length payload)) (omega (arith, deep, row.many))
    (short-then sizes limit count fault a b p row.rest (length row.chain) (2 * old.levels + 3) (omega (arith, kept)) refused)
