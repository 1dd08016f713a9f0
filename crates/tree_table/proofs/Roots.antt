-- What stands in the page of a root once a delete below it is done, and what is refused there.
use Rattle.std.proofs.Common.{◌≡◌, ℕ, ℤ, zero, suc, ◌+◌, ◌*◌, ◌<◌, ◌⊎◌, ◌-◌, ◌∙◌, List, [], ◌∷◌, ◌++◌, drop, length, sym, ap, subst, arith}
use Rattle.std.proofs.Math.Path.{subst⁻¹}
use Rattle.std.specs.List.{All}
use Rattle.format_spec.specs.Header.{freelist_trunk}
use Rattle.format_spec.specs.Page.{header_place}
use Rattle.format_spec.specs.declared.PageKind.{PageKind}
use Rattle.format_spec.specs.declared.PageKind.TheVariants.{TableInterior, TableLeaf}
use Rattle.page_spec.specs.Counts.{hit, times}
use Rattle.page_spec.specs.CountsLaws.{hit-itself, times-append}
use Rattle.page_spec.specs.Freelists.{Trunk, free_pages}
use Rattle.page_spec.specs.FreelistsLaws.{first-not_free}
use Rattle.page_spec.specs.Rooms.{IsOneCell, right_kept}
use Rattle.tree_spec.specs.declared.TreeKind.{TreeKind}
use Rattle.tree_spec.specs.declared.TreeKind.TheVariants.{Table}
use Rattle.tree_spec.specs.declared.fault.TreeFault.{TreeFault}
use Rattle.tree_spec.specs.Faults.{IsFull, IsOther}
use Rattle.tree_spec.specs.Bounds.{InOrder, IsOrdered, below_rowids, greatest_rowid}
use Rattle.tree_spec.specs.OneTreeLaws.{levels-one}
use Rattle.tree_spec.specs.Trees.{Member, Rooted, TreeOf, page_of, pages_in, pages_of, root_of}
use Rattle.tree_spec.specs.Standing.{Sizes, Paged, IsNumber, Stands}
use Rattle.tree_spec.specs.Worlds.{IsFree, IsWorld, with_tree}
use Rattle.tree_spec.specs.WorldsLaws.{world-deep, world-root, world-within}
use Rattle.tree_spec.specs.Changes.{Within, Writes}
use Rattle.tree_spec.specs.ChangesLaws.{Turns-within, Turns-write, freelist-kept}
use Rattle.put_spec.specs.Puts.{After, hand_after}
use Rattle.put_spec.specs.PutsLaws.{hand-parts}
use Rattle.delete_spec.specs.Steps.{DeleteAt, DeleteInto, IsReady}
use Rattle.tree_pages.specs.TakesLaws.{short-more}
use Rattle.tree_walk.specs.declared.page.TreePage.{TreePage}
use Rattle.tree_walk.specs.Pages.{IsDecoded}
use Rattle.tree_level.specs.declared.cells.Change.{Change}
use Rattle.tree_level.specs.ChangesLaws.{spelled-read}
use Rattle.tree_table.specs.declared.taking.Taken.{Taken}
use Rattle.tree_table.specs.Deletes.{DeletesTable, LeavesRoot, Opens, gone_of}
use Rattle.tree_table.specs.Needs.{HasOnly, IsShortTable}
use Rattle.tree_table.proofs.Needed.{short-full, table-kind}
use Rattle.tree_table.proofs.Neighbours.{hit-some}
use Rattle.tree_table.proofs.Unders.{spelled-all}
use Rattle.tree_table.proofs.Worlds.{IsFreed}

module _ (sizes : Sizes) (a b : Paged) (trunks : List Trunk) where
  -- page 1, which is never free, was written
  pub first-written : Writes 1 a b → IsFree sizes a trunks → IsFree sizes b trunks
  first-written writes free =
      let none = first-not_free sizes.size sizes.usable a.pages a.count (freelist_trunk (a.pages 1)) trunks free.named in
      freelist-kept sizes a b trunks
      (
      record {
        same = λ n some. ap (drop (header_place n)) (writes.others n (λ is. let same = ap (λ (m : ℕ). times m (free_pages trunks)) is in omega (arith, some, same, none)));
        grows = omega (arith, writes.count);
      }) (λ k low. writes.front k low) free

  -- a page in hand was
  pub hand-written : (number : ℕ) → Within sizes a (number ∷ []) trunks → Writes number a b → IsFree sizes a trunks → IsFree sizes b trunks
  hand-written number within writes free = (Turns-write sizes a b number (number ∷ []) trunks within (omega (arith, hit-itself number)) writes).freelist free

-- the last child of a page that is opened stands, and the page is in hand
module _ (sizes : Sizes) (page : TreePage) (decoded : IsDecoded page.bytes page.number sizes.usable page) (kind : page.kind ≡ TableInterior) (old : Paged) (there : old.pages page.number ≡ page.bytes) (rowid : ℤ) (row : Taken) (change : Change)
    (bytes : List (List ℕ)) (mid : Paged) (all : All (IsOneCell TableInterior sizes.usable) bytes) (opens : Opens sizes rowid row page change bytes old mid) where
  pub opened-only : (levels : ℕ) (tree : TreeOf levels) (trunks : List Trunk) → page_of levels tree ≡ page.number → IsFree sizes old trunks → IsReady sizes levels old tree trunks
      → (rest : List Trunk) × IsFree sizes mid rest × HasOnly sizes page.number change.right mid rest
  opened-only zero tree trunks is free ready =
      absurd (let other : TableLeaf ≡ page.kind = table-kind sizes old page.number zero tree page is ready.stands (subst⁻¹ (λ (b : List ℕ). IsDecoded b page.number sizes.usable page) there decoded) in let no : ⊥ = cc in no)
  opened-only (suc below) tree trunks is free ready =
      let read = spelled-read sizes.usable page decoded in
      let coming = spelled-all page.kind sizes.usable bytes (subst⁻¹ (λ (k : PageKind). All (IsOneCell k sizes.usable) bytes) kind all) in
      let d = opens read.0 coming.0 read.1 coming.1 (suc below) tree trunks is free ready in
      let after : After (suc below) = record { base = mid; siblings = []; home = d.home; trunks = d.rest; first = row.old.first; bytes = row.old.bytes; chain = d.chain } in
      let later = Turns-within sizes old mid (pages_of (suc below) tree) (hand_after after) trunks d.rest ready.within d.opened.turns in
      let some : 0 < times page.number (hand_after after) = omega (arith, hand-parts page.number (suc below) after, ap (λ (p : ℕ). hit p page.number) (d.page ∙ is), hit-itself page.number) in
      let right_is : change.right ≡ page_of below d.home.last = subst (λ (k : PageKind). right_kept k change.right ≡ page_of below d.home.last) kind d.right_is in (
        d.rest,
        d.opened.turns.freelist free,
        record {
          levels = below;
          tree = d.home.last;
          page_is = sym right_is;
          stands = d.opened.below.1.1;
          in_range = subst⁻¹ (λ (p : ℕ). IsNumber sizes mid p) right_is d.opened.below.1.0;
          within = λ n. omega (arith, hit-some page.number n (hand_after after) some, later n);
        },
      )

-- In a world.

module _ (sizes : Sizes) (front : List Rooted) (old : Rooted) (back : List Rooted) (a : Paged) (p : List Trunk) (root : ℕ) (world : IsWorld sizes a (with_tree front old back p)) (kind : old.kind ≡ Table) (is : root_of old ≡ root) where
  table-ready : IsReady sizes old.levels a old.tree p
  table-ready = record {
    within = world-within sizes a front old back p world;
    stands = subst (λ (k : TreeKind). Stands sizes a k old.levels old.tree) kind (world-root sizes a front old back p world).stands;
  }

  ordered : InOrder old.levels below_rowids greatest_rowid old.tree
  ordered = subst (λ (k : TreeKind). IsOrdered k old.levels old.tree) kind (world-root sizes a front old back p world).ordered

  -- a row that is out of each table in order at the root is out of this one, which is the only one there
  pub world-deletes : (rowid : ℤ) (row : Taken) (b : Paged) → DeletesTable sizes root rowid row a b → LeavesRoot sizes rowid row root a b
  world-deletes rowid row b deletes levels tree trunks there free ready =
      let same = (levels-one sizes a Table Table old.levels levels old.tree tree (is ∙ sym there) table-ready.stands ready.stands).1 in
      subst (λ (n : ℕ). DeleteAt sizes (gone_of rowid row) n root a b row.old.first row.old.bytes) same
      (deletes old.levels old.tree below_rowids greatest_rowid is table-ready.stands ordered (world-root sizes a front old back p world).full) tree trunks there free ready

  -- what is refused in a root's tree is so at the start of the delete
  pub world-refused : {F : Type 0} (limit count : ℕ) (fault : TreeFault F) → IsShortTable sizes 24 2 limit root a count fault → IsOther fault ⊎ (IsFull count limit fault × (length (free_pages p) + (limit - a.count) < 54))
  world-refused limit count fault short =
      let deep = world-deep sizes a front old back p world in
      let refused = short old.levels old.tree p below_rowids greatest_rowid ordered (omega (arith, deep)) is (world-root sizes a front old back p world).full world.freelist table-ready in
      short-full sizes limit count fault a p 0 (short-more sizes limit count fault a p (2 * old.levels + 2) 51 (omega (arith, deep)) refused)

  -- the chain that is to be given back stands beside the free pages
  pub deleted-freed : (gone : Member) (b : Paged) (first bytes : ℕ) → DeleteInto sizes gone root a b first bytes → IsFreed sizes first bytes b
  deleted-freed gone b first bytes into =
      let done = into old.levels old.tree p is world.freelist table-ready in
      let later = Turns-within sizes a b (pages_in old) (pages_in done.rooted ++ done.chain) p done.rest table-ready.within done.deleted.turns in
      record {
        chain = done.chain;
        trunks = done.rest;
        is_chain = done.deleted.freed;
        free = done.deleted.turns.freelist world.freelist;
        within = λ n. omega (arith, later n, times-append n (pages_in done.rooted) done.chain);
      }
