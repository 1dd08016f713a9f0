-- How many pages a delete uses below a page that was read, and why none is refused there but for want of pages.
use Rattle.std.proofs.Common.{◌≡◌, ℕ, zero, suc, ◌+◌, ◌-◌, ◌*◌, ◌<◌, ◌≤◌, ◌∙◌, List, [], ◌∷◌, Option, Some, IfSome, length, map, max, slice_get, slice_index_or, refl, sym, ap, subst, inl, inr, arith}
use Rattle.std.proofs.Math.Path.{subst⁻¹}
use Rattle.std.specs.List.{All, AllByRecursion}
use Rattle.format_spec.specs.Header.{freelist_pages}
use Rattle.format_spec.specs.declared.CellView.{CellView}
use Rattle.format_spec.specs.declared.PageKind.TheVariants.{TableInterior, TableLeaf}
use Rattle.page_spec.specs.Chains.{IsChain}
use Rattle.page_spec.specs.ChainsLaws.{chain-not_broken}
use Rattle.page_spec.specs.Counts.{hit, times}
use Rattle.page_spec.specs.CountsLaws.{hit-itself}
use Rattle.page_spec.specs.FreePages.{due_pages}
use Rattle.page_spec.specs.FreePagesLaws.{due-most}
use Rattle.page_spec.specs.Freelists.{Trunk, free_pages}
use Rattle.page_spec.specs.Pages.{Pages}
use Rattle.page_spec.specs.Rooms.{IsOneCell, right_kept}
use Rattle.page_store.specs.declared.store.PageRead.{Ghosts}
use Rattle.page_store.specs.StoreLaws.{IfSome-told}
use Rattle.tree_spec.specs.declared.TreeKind.TheVariants.{Table}
use Rattle.tree_spec.specs.declared.fault.TreeFault.{TreeFault}
use Rattle.tree_spec.specs.declared.fault.TreeFault.TheVariants.{TreeDamaged, TrunkDamaged, TargetFull, Store, Memory}
use Rattle.tree_spec.specs.Faults.{IsDamageOrOther}
use Rattle.tree_spec.specs.Trees.{IsFull as IsFullTree, TreeCell, TreeOf, kind_at, page_of}
use Rattle.tree_spec.specs.Standing.{Sizes, Paged, IsHeld, Stands}
use Rattle.tree_spec.specs.Changes.{Within}
use Rattle.tree_spec.specs.ChangesLaws.{Turns-wide, Turns-within}
use Rattle.tree_spec.specs.Worlds.{IsFree}
use Rattle.put_spec.specs.ImagesLaws.{length-of}
use Rattle.put_spec.specs.Steps.{Releases, Spelled, spelled, views_in}
use Rattle.put_spec.specs.SpelledLaws.{page-tells}
use Rattle.delete_spec.specs.Steps.{IsReady}
use Rattle.tree_pages.specs.Takes.{IsShort, UsesBy}
use Rattle.tree_pages.specs.TakesLaws.{settled-takes, short-more}
use Rattle.tree_pages.specs.UsesLaws.{gives-use, settled-uses, short-used, uses-more, uses-then}
use Rattle.tree_pages.specs.Writers.{Becomes, paged, sizes_of}
use Rattle.tree_walk.specs.declared.page.TreePage.{TreePage}
use Rattle.tree_walk.specs.Pages.{IsDecoded, view_of}
use Rattle.tree_walk.specs.Payloads.{IsBadPayload}
use Rattle.tree_walk.specs.PayloadsLaws.{chain-first}
use Rattle.tree_walk.specs.Places.{child_or}
use Rattle.tree_level.specs.declared.cells.Change.{Change}
use Rattle.tree_level.specs.Changes.{ChangesAt, changed}
use Rattle.tree_level.specs.ChangesLaws.{spelled-read}
use Rattle.tree_table.specs.Needs.{IsOtherAt, IsShortBelow, IsShortRoot, UsesUnder, Whenever}
use Rattle.tree_table.proofs.Needed.{HasChild, table-child, table-kind}
use Rattle.tree_table.proofs.Unders.{has-cells, spelled-all}

-- Pages that a store tells.

module _ {P F : Type 0} (g : Ghosts P F) where
  pub same-told : (s : P) (old new : Pages) → g.pages s ≡ Some old → g.pages s ≡ Some new → old ≡ new
  same-told s old new one two = IfSome-told (λ p. old ≡ p) new two (subst⁻¹ (λ (o : Option Pages). IfSome o (λ p. old ≡ p)) one refl)

  pub always : (R : Paged → Paged → Type 0) (before after : P) → Becomes g before after R → Whenever g before after R
  always R before after went old told new later =
      let r = went old told in
      subst (λ (n : Pages). R (paged g before old) (paged g after n)) (same-told after r.0 new r.1 later) r.2

  -- a call that only read
  pub whenever-none : (sizes : Sizes) (a b : P) → g.pages b ≡ g.pages a → g.count b ≡ g.count a → Whenever g a b (UsesBy sizes 0)
  whenever-none sizes a b pages count old told new later =
      omega (arith, ap (due_pages sizes.size) count, ap (λ (p : Pages). freelist_pages (p 1)) (same-told b old new (pages ∙ told) later))

  -- a call behind one that only read
  pub uses-read : (most : ℕ) (a b c : P) → sizes_of g b ≡ sizes_of g a → g.pages b ≡ g.pages a → g.count b ≡ g.count a → Whenever g b c (UsesBy (sizes_of g b) most) → Whenever g a c (UsesBy (sizes_of g a) most)
  uses-read most a b c sizes pages count uses old told new later =
      subst (λ (n : ℕ). UsesBy (sizes_of g a) most (record { count = n; pages = old }) (paged g c new)) count
      (subst (λ (s : Sizes). UsesBy s most (paged g b old) (paged g c new)) sizes (uses old (pages ∙ told) new later))

  pub free-read : (m : Pages) (trunks : List Trunk) (a b : P) → sizes_of g b ≡ sizes_of g a → g.count b ≡ g.count a → IsFree (sizes_of g a) (paged g a m) trunks → IsFree (sizes_of g b) (paged g b m) trunks
  free-read m trunks a b sizes count free =
      subst⁻¹ (λ (s : Sizes). IsFree s (paged g b m) trunks) sizes (subst⁻¹ (λ (n : ℕ). IsFree (sizes_of g a) (record { count = n; pages = m }) trunks) count free)

-- A payload is read.

module _ (sizes : Sizes) (base : Paged) where
  held-chain : (cells : List TreeCell) (at : ℕ) (d : CellView) → at < length cells → AllByRecursion (IsHeld sizes base TableLeaf) cells
      → let view = slice_index_or (views_in (map spelled cells)) at d in (chain : List ℕ) × IsChain base.pages sizes.size sizes.usable base.count view.overflow (view.payload - view.local) chain
  held-chain [] at d low all = absurd (omega arith)
  held-chain (cell ∷ cells) zero d low all = (cell.chain, all.0.is_chain)
  held-chain (cell ∷ cells) (suc at) d low all = held-chain cells at d (omega arith) all.1

  module _ (page : TreePage) (there : base.pages page.number ≡ page.bytes) (decoded : IsDecoded page.bytes page.number sizes.usable page) (kind : page.kind ≡ TableLeaf) (at : ℕ) (low : at < length page.views) where
    leaf-chain : (levels : ℕ) (tree : TreeOf levels) → page_of levels tree ≡ page.number → Stands sizes base Table levels tree
        → (d : CellView) → let view = slice_index_or page.views at d in (chain : List ℕ) × IsChain base.pages sizes.size sizes.usable base.count view.overflow (view.payload - view.local) chain
    leaf-chain zero tree is stands d =
        let read = spelled-read sizes.usable page decoded in
        let told = page-tells sizes base Table zero page.number tree read.0 page.right is (has-cells sizes page base there decoded TableLeaf kind read.0 read.1) stands in
        let views : views_in (map spelled tree.cells) ≡ page.views = ap views_in (sym told.0) ∙ read.1.views_are in
        subst (λ (l : List CellView). let view = slice_index_or l at d in (chain : List ℕ) × IsChain base.pages sizes.size sizes.usable base.count view.overflow (view.payload - view.local) chain) views
        (held-chain tree.cells at d (omega (arith, low, ap length views, length-of (λ (c : Spelled). c.view) (map spelled tree.cells), length-of spelled tree.cells)) stands.1)
    leaf-chain (suc below) tree is stands d =
        absurd (let other : TableInterior ≡ page.kind = table-kind sizes base page.number (suc below) tree page is stands (subst⁻¹ (λ (b : List ℕ). IsDecoded b page.number sizes.usable page) there decoded) in let no : ⊥ = cc in no)

    pub payload-other : {F : Type 0} (d : CellView) (fault : TreeFault F) → IsDamageOrOther (IsBadPayload base.pages sizes.size sizes.usable base.count (view_of page) at) fault → IsOtherAt sizes page.number base fault
    payload-other d (TreeDamaged n r) bad levels tree is stands =
        let view = slice_index_or page.views at d in
        let chain = leaf-chain levels tree is stands d in
        let wrong = bad d in
        elim wrong.1.1 [
          | inl first ↦ absurd (first.1 (chain-first base.pages sizes.size sizes.usable base.count view.overflow (view.payload - view.local) chain.0 wrong.0 chain.1))
          | inr later ↦ absurd (chain-not_broken base.pages sizes.size base.count sizes.usable view.overflow (view.payload - view.local) chain.0 n chain.1 later.1)
        ]
    payload-other d (TrunkDamaged n) bad levels tree is stands = bad
    payload-other d (TargetFull n limit) bad levels tree is stands = bad
    payload-other d (Store fault) bad levels tree is stands = tt
    payload-other d (Memory error) bad levels tree is stands = tt

-- Pages that a level uses.

module _ (sizes : Sizes) where
  module _ (page : TreePage) (number levels : ℕ) (change : Change) (comes dividers : List (List ℕ)) (a b : Paged) (decoded : IsDecoded page.bytes page.number sizes.usable page) (kind : kind_at Table levels ≡ page.kind)
      (all : All (IsOneCell page.kind sizes.usable) comes) (changes : ChangesAt sizes number page change comes dividers a b) (trunks : List Trunk) (free : IsFree sizes a trunks) where
    -- cells of a page that were changed use one page for each divider
    pub changes-use : UsesBy sizes (length dividers) a b
    changes-use =
        let read = spelled-read sizes.usable page decoded in
        let coming = spelled-all page.kind sizes.usable comes all in
        let s = changes levels Table read.0 coming.0 kind read.1 coming.1 in
        uses-more sizes a b (length s.up) (length dividers) (omega (arith, length-of (λ (cell : Spelled). cell.bytes) s.up, ap length s.up_are.bytes_are))
        (settled-uses sizes levels Table s.up (changed read.0 change.at change.goes coming.0) number (right_kept page.kind change.right) a b trunks s.settled free)

    -- and the freelist is sound then
    pub changes-free : Within sizes a (number ∷ []) trunks → (rest : List Trunk) × IsFree sizes b rest
    changes-free within =
        let read = spelled-read sizes.usable page decoded in
        let coming = spelled-all page.kind sizes.usable comes all in
        let s = changes levels Table read.0 coming.0 kind read.1 coming.1 in
        let t = settled-takes sizes levels Table s.up (changed read.0 change.at change.goes coming.0) number (right_kept page.kind change.right) a b (number ∷ []) trunks s.settled free within (omega (arith, hit-itself number)) in
        (t.rest, t.turns.freelist free)

  -- A page in hand is given back.
  module _ (gone : ℕ) (a b : Paged) (gives : Releases sizes gone a b) (trunks : List Trunk) (free : IsFree sizes a trunks) (within : Within sizes a (gone ∷ []) trunks) where
    apart : times gone (free_pages trunks) ≡ 0
    apart = omega (arith, within gone, due-most sizes.size a.count gone, hit-itself gone)

    pub gives-open : (rest : List Trunk) × IsFree sizes b rest × UsesBy sizes 0 a b
    gives-open = let t = gives trunks free apart in (t.0, t.1.freelist free, gives-use sizes a b gone trunks gives free within apart)

    -- with another page in hand
    pub gives-within : (kept : ℕ) → Within sizes a (kept ∷ gone ∷ []) trunks → (rest : List Trunk) × IsFree sizes b rest × Within sizes b (kept ∷ []) rest
    gives-within kept both =
        let t = gives trunks free apart in (
          t.0,
          t.1.freelist free,
          Turns-within sizes a b (kept ∷ gone ∷ []) (kept ∷ []) trunks t.0 both
              (Turns-wide sizes a b (gone ∷ []) [] (kept ∷ gone ∷ []) (kept ∷ []) trunks t.0 (hit kept) (λ n. omega arith) (λ n. omega arith) t.1),
        )

    -- what is refused then
    pub gives-short : {F : Type 0} (most limit count : ℕ) (fault : TreeFault F) → b.count ≡ a.count → ((rest : List Trunk) → IsFree sizes b rest → IsShort sizes most limit b rest count fault) → IsShort sizes most limit a trunks count fault
    gives-short most limit count fault same short =
        let o = gives-open in
        short-more sizes limit count fault a trunks (0 + most) most (omega arith)
        (short-used sizes limit count fault a b trunks o.0 0 most free o.1 (omega (arith, same)) (omega (arith, same)) o.2 (short o.0 o.1))

module _ (sizes : Sizes) (number : ℕ) (page : TreePage) (at : ℕ) (a : Paged) (decoded : IsDecoded (a.pages number) number sizes.usable page) (kind : page.kind ≡ TableInterior) where
  has-child : (levels : ℕ) (tree : TreeOf levels) (trunks : List Trunk) → page_of levels tree ≡ number → IsReady sizes levels a tree trunks → HasChild sizes a number levels tree (child_or page.right (slice_get page.views at))
  has-child levels tree trunks is ready = table-child sizes a number levels tree page at is ready.stands decoded kind

  ready-child : (levels : ℕ) (tree : TreeOf levels) (trunks : List Trunk) (is : page_of levels tree ≡ number) (ready : IsReady sizes levels a tree trunks)
      → IsReady sizes (has-child levels tree trunks is ready).below a (has-child levels tree trunks is ready).child trunks
  ready-child levels tree trunks is ready =
      let has = has-child levels tree trunks is ready in
      record { within = λ n. omega (arith, ready.within n, has.pages n); stands = has.stands }

  -- a delete below a child, and then in the page itself
  pub uses-interior : (b c : Paged) → UsesUnder sizes (child_or page.right (slice_get page.views at)) a b
      → ((levels : ℕ) (tree : TreeOf levels) (trunks : List Trunk) → page_of levels tree ≡ number → IsFree sizes a trunks → IsReady sizes levels a tree trunks → UsesBy sizes 2 b c) → UsesUnder sizes number a c
  uses-interior b c below own levels tree trunks is free ready =
      let has = has-child levels tree trunks is ready in
      let one = below has.below has.child trunks has.named_is free (ready-child levels tree trunks is ready) in
      uses-more sizes a c (2 * has.below + 2) (2 * levels) (omega (arith, has.levels_are)) (uses-then sizes a b c (2 * has.below) 2 one (own levels tree trunks is free ready))

  module _ {F : Type 0} (limit count : ℕ) (fault : TreeFault F) where
    -- what is refused below the child
    pub short-child : (most deeper more : ℕ) → most + 1 ≡ deeper → 1 ≤ more → IsShortBelow sizes most 1 limit (child_or page.right (slice_get page.views at)) a count fault → IsShortBelow sizes deeper more limit number a count fault
    short-child most deeper more deep wide below levels tree trunks low is full free ready =
        let has = has-child levels tree trunks is ready in
        short-more sizes limit count fault a trunks (2 * has.below + 1) (2 * levels + more) (omega (arith, has.levels_are, wide))
        (below has.below has.child trunks (omega (arith, low, has.levels_are, deep)) has.named_is (has.full full.1) free (ready-child levels tree trunks is ready))

    -- or behind that in the page itself
    pub short-passed : (most more own : ℕ) (b : Paged) → own ≤ more + 2 → UsesUnder sizes (child_or page.right (slice_get page.views at)) a b → a.count ≤ b.count → b.count ≤ max limit a.count
        → ((levels : ℕ) (tree : TreeOf levels) (trunks : List Trunk) → page_of levels tree ≡ number → IsFullTree levels tree → IsFree sizes a trunks → IsReady sizes levels a tree trunks
        → (rest : List Trunk) × IsFree sizes b rest × IsShort sizes own limit b rest count fault)
        → IsShortBelow sizes most more limit number a count fault
    short-passed most more own b low below grows limited short levels tree trunks few is full free ready =
        let has = has-child levels tree trunks is ready in
        let one = below has.below has.child trunks has.named_is free (ready-child levels tree trunks is ready) in
        let later = short levels tree trunks is full free ready in
        short-more sizes limit count fault a trunks (2 * has.below + own) (2 * levels + more) (omega (arith, has.levels_are, low))
        (short-used sizes limit count fault a b trunks later.0 (2 * has.below) own free later.1 grows limited one later.2)

    -- the same from the page of a root
    pub root-child : (most deeper more : ℕ) → most + 1 ≡ deeper → 1 ≤ more → IsShortBelow sizes most 1 limit (child_or page.right (slice_get page.views at)) a count fault → IsShortRoot sizes deeper more limit number a count fault
    root-child most deeper more deep wide below levels tree trunks low is full free ready =
        let has = has-child levels tree trunks is ready in
        short-more sizes limit count fault a trunks (2 * has.below + 1) (2 * levels + more) (omega (arith, has.levels_are, wide))
        (below has.below has.child trunks (omega (arith, low, has.levels_are, deep)) has.named_is (has.full full.below) free (ready-child levels tree trunks is ready))

    pub root-passed : (most more own : ℕ) (b : Paged) → own ≤ more + 2 → UsesUnder sizes (child_or page.right (slice_get page.views at)) a b → a.count ≤ b.count → b.count ≤ max limit a.count
        → ((levels : ℕ) (tree : TreeOf levels) (trunks : List Trunk) → page_of levels tree ≡ number → IsFree sizes a trunks → IsReady sizes levels a tree trunks → (rest : List Trunk) × IsFree sizes b rest × IsShort sizes own limit b rest count fault)
        → IsShortRoot sizes most more limit number a count fault
    root-passed most more own b low below grows limited short levels tree trunks few is full free ready =
        let has = has-child levels tree trunks is ready in
        let one = below has.below has.child trunks has.named_is free (ready-child levels tree trunks is ready) in
        let later = short levels tree trunks is free ready in
        short-more sizes limit count fault a trunks (2 * has.below + own) (2 * levels + more) (omega (arith, has.levels_are, low))
        (short-used sizes limit count fault a b trunks later.0 (2 * has.below) own free later.1 grows limited one later.2)
