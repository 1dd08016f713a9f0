-- How many pages were taken below a page that was read, and why none is refused there but for want of pages.
use Rattle.std.proofs.Common.{◌≡◌, ℕ, ◌+◌, ◌-◌, ◌*◌, ◌<◌, ◌≤◌, ◌⊎◌, List, [], ◌++◌, length, max, slice_get, Result, Ok, Err, IfErr, IfOk, OnOk, ap, subst, inl, inr, arith, length-append}
use Rattle.std.proofs.Math.Path.{subst⁻¹}
use Rattle.std.specs.List.{All}
use Rattle.format_spec.specs.declared.PageKind.TheVariants.{IndexInterior}
use Rattle.key_order.specs.declared.order.KeyOrder.{KeyOrder}
use Rattle.page_spec.specs.Counts.{hit, times}
use Rattle.page_spec.specs.CountsLaws.{hit-itself, times-append}
use Rattle.page_spec.specs.FreePages.{due}
use Rattle.page_spec.specs.FreePagesLaws.{due_pages-most}
use Rattle.page_spec.specs.Freelists.{Trunk, free_pages}
use Rattle.page_spec.specs.Pages.{Pages}
use Rattle.page_spec.specs.Rooms.{IsOneCell, right_kept}
use Rattle.page_store.specs.declared.store.PageRead.{Ghosts}
use Rattle.refusal.specs.declared.Rule.TheVariants as rule
use Rattle.tree_spec.specs.declared.TreeKind.TheVariants.{Index}
use Rattle.tree_spec.specs.declared.fault.TreeFault.{TreeFault}
use Rattle.tree_spec.specs.Faults.{IsFull, IsOther}
use Rattle.tree_spec.specs.Trees.{TreeOf, kind_at, list_of, page_of, pages_of}
use Rattle.tree_spec.specs.Standing.{Sizes, Paged, IsNumber, Stands}
use Rattle.tree_spec.specs.Worlds.{IsFree}
use Rattle.tree_spec.specs.ChangesLaws.{Turns-wide, free-within}
use Rattle.put_spec.specs.ImagesLaws.{length-of}
use Rattle.put_spec.specs.PutsLaws.{pages-parts}
use Rattle.put_spec.specs.Steps.{Spelled}
use Rattle.tree_pages.specs.Takes.{IsShort, TakesAtMost}
use Rattle.tree_pages.specs.TakesLaws.{due_pages-least, settled-takes, short-more, short-then, slack-taken, takes-more, takes-none, takes-then, takes-within}
use Rattle.tree_pages.specs.Writers.{paged}
use Rattle.tree_walk.specs.declared.page.TreePage.{TreePage}
use Rattle.tree_walk.specs.Pages.{IsDecoded}
use Rattle.tree_walk.specs.Places.{child_or}
use Rattle.tree_level.specs.declared.cells.Change.{Change}
use Rattle.tree_level.specs.Changes.{Changes, changed}
use Rattle.tree_level.specs.ChangesLaws.{spelled-read}
use Rattle.tree_index.specs.Needs.{AreEntries, IsShortLeaf, IsShortUnder, TakesAt, TakesUnder, overflow_pages}
use Rattle.tree_index.specs.Puts.{MakesCell}
use Rattle.tree_index.specs.ReadsLaws.{index-child}
use Rattle.tree_index.proofs.Entering.{spelled-all}

-- a page stands among those of its tree
pub own-page : (levels : ℕ) (tree : TreeOf levels) (number : ℕ) → page_of levels tree ≡ number → 0 < times number (pages_of levels tree)
own-page levels tree number is = omega (arith, pages-parts number levels tree, ap (λ (n : ℕ). hit n number) is, hit-itself number)

-- Pages that were taken.

pub if-ok_join : {T E : Type 0} {P Q R : T → Type 0} (result : Result T E) → ((x : T) → P x → Q x → R x) → IfOk result P → IfOk result Q → IfOk result R
if-ok_join (Ok x) join one two = join x one two
if-ok_join (Err e) join one two = tt

pub ok-also : {T E : Type 0} {P R : T → Type 0} {Q : Type 0} (result : Result T E) → ((x : T) → P x → Q → R x) → IfOk result P → OnOk result Q → IfOk result R
ok-also (Ok x) join one two = join x one two
ok-also (Err e) join one two = tt

module _ (sizes : Sizes) where
  -- cells of a page that were changed take one page for each divider
  pub changes-take : (page : TreePage) (levels : ℕ) (change : Change) (comes dividers : List (List ℕ)) (most : ℕ) (a b : Paged) → IsDecoded page.bytes page.number sizes.usable page
      → kind_at Index levels ≡ page.kind → All (IsOneCell page.kind sizes.usable) comes → length dividers ≤ most → Changes sizes page change comes dividers a b → TakesAt sizes page.number most a b
  changes-take page levels change comes dividers most a b decoded kind all few changes hand trunks free within some =
      let read = spelled-read sizes.usable page decoded in
      let coming = spelled-all page.kind sizes.usable comes all in
      let s = changes levels Index read.0 coming.0 kind read.1 coming.1 in
      takes-more sizes a b hand trunks (length s.up) most (omega (arith, few, length-of (λ (cell : Spelled). cell.bytes) s.up, ap length s.up_are.bytes_are))
      (settled-takes sizes levels Index s.up (changed read.0 change.at change.goes coming.0) page.number (right_kept page.kind change.right) a b hand trunks s.settled free within some)

  -- the cell of an entry takes the pages of its chain
  pub makes-take : (payload bytes : List ℕ) (a b : Paged) (hand : List ℕ) (trunks : List Trunk) → MakesCell sizes payload bytes a b → IsFree sizes a trunks
      → TakesAtMost sizes (overflow_pages sizes.usable (length payload)) hand a trunks b
  makes-take payload bytes a b hand trunks makes free =
      let made = makes trunks free in
      record {
        later = made.chain ++ hand;
        rest = made.rest;
        turns = Turns-wide sizes a b [] made.chain hand (made.chain ++ hand) trunks made.rest (λ n. times n hand) (λ n. omega arith) (λ n. omega (arith, times-append n made.chain hand)) made.turns;
        keeps = λ n. omega (arith, times-append n made.chain hand);
        few = omega (arith, length-append made.chain hand, made.many);
      }

  -- a cell that was made, and put among those of a page
  pub makes-then : (payload bytes : List ℕ) (number most : ℕ) (a b c : Paged) → MakesCell sizes payload bytes a b → TakesAt sizes number most b c → TakesAt sizes number (most + overflow_pages sizes.usable (length payload)) a c
  makes-then payload bytes number most a b c makes takes hand trunks free within some =
      let chain = overflow_pages sizes.usable (length payload) in
      let one = makes-take payload bytes a b hand trunks makes free in
      let later = takes-within sizes a b hand trunks chain within one in
      let two = takes one.later one.rest (one.turns.freelist free) later (omega (arith, some, one.keeps number)) in
      takes-more sizes a c hand trunks (chain + most) (most + chain) (omega arith) (takes-then sizes a b c hand trunks chain most within one two)

  pub same-takes : (number most : ℕ) (a b : Paged) → b ≡ a → TakesAt sizes number most a b
  same-takes number most a b same hand trunks free within some = subst⁻¹ (λ (x : Paged). TakesAtMost sizes most hand a trunks x) same (takes-more sizes a a hand trunks 0 most (omega arith) (takes-none sizes a hand trunks))

  pub under-same_pages : (number more : ℕ) (a b : Paged) → b ≡ a → TakesUnder sizes more number a b
  under-same_pages number more a b same levels tree hand trunks is stands free within all =
      subst⁻¹ (λ (x : Paged). TakesAtMost sizes (2 * levels + more) hand a trunks x) same (takes-more sizes a a hand trunks 0 (2 * levels + more) (omega arith) (takes-none sizes a hand trunks))

  -- a page whose cells were changed, which is all that a put below it does where it is a leaf
  pub under-leaf : (number more : ℕ) (a b : Paged) → TakesAt sizes number more a b → TakesUnder sizes more number a b
  under-leaf number more a b takes levels tree hand trunks is stands free within all =
      takes-more sizes a b hand trunks more (2 * levels + more) (omega arith) (takes hand trunks free within (omega (arith, own-page levels tree number is, all number)))

  -- and where it is interior, a put below its child goes first
  pub under-interior : (order : KeyOrder) (number more : ℕ) (page : TreePage) (at : ℕ) (a b c : Paged) → IsDecoded (a.pages number) number sizes.usable page → page.kind ≡ IndexInterior
      → TakesUnder sizes more (child_or page.right (slice_get page.views at)) a b → TakesAt sizes number 2 b c → TakesUnder sizes more number a c
  under-interior order number more page at a b c decoded kind below own levels tree hand trunks is stands free within all =
      let has = index-child sizes a number order levels tree page at is stands decoded kind in
      let one = below has.below has.child hand trunks has.named_is has.stands free within (λ n. omega (arith, has.pages n, all n)) in
      let later = takes-within sizes a b hand trunks (2 * has.below + more) within one in
      let two = own one.later one.rest (one.turns.freelist free) later (omega (arith, own-page levels tree number is, all number, one.keeps number)) in
      takes-more sizes a c hand trunks (2 * has.below + more + 2) (2 * levels + more) (omega (arith, has.levels_are)) (takes-then sizes a b c hand trunks (2 * has.below + more) 2 within one two)

  -- What is refused.
  module _ {F : Type 0} (order : KeyOrder) (limit count : ℕ) (fault : TreeFault F) where
    -- a page that cannot be read
    pub under-other : (most more number : ℕ) (a : Paged)
        → ((levels : ℕ) (tree : TreeOf levels) → page_of levels tree ≡ number → Stands sizes a Index levels tree → AreEntries order (list_of Index levels tree) → IsOther fault)
        → IsShortUnder sizes order most more limit number a count fault
    under-other most more number a other levels tree trunks low is stands entries free within = inl (other levels tree is stands entries)

    -- a leaf, or the root of one
    pub under-short : (most more number : ℕ) (a : Paged) → IsShortLeaf sizes order more limit number a count fault → IsShortUnder sizes order most more limit number a count fault
    under-short most more number a short levels tree trunks low is stands entries free within = short-more sizes limit count fault a trunks more (2 * levels + more) (omega arith) (short levels tree trunks is stands entries free)

    module _ (number : ℕ) (page : TreePage) (at : ℕ) (a : Paged) (decoded : IsDecoded (a.pages number) number sizes.usable page) (kind : page.kind ≡ IndexInterior) where
      -- a child is named
      pub under-named : (most more : ℕ) → ¬ IsNumber sizes a (child_or page.right (slice_get page.views at)) → IsShortUnder sizes order most more limit number a count fault
      under-named most more out levels tree trunks low is stands entries free within = absurd (out (index-child sizes a number order levels tree page at is stands decoded kind).in_range)

      -- a page that may have no levels below it is no interior page
      pub under-deep : (most more : ℕ) → most ≡ 0 → IsShortUnder sizes order most more limit number a count fault
      under-deep most more none levels tree trunks low is stands entries free within =
          absurd (let has = index-child sizes a number order levels tree page at is stands decoded kind in omega (arith, has.levels_are))

      -- what is refused below the child
      pub under-child : (most deeper less more : ℕ) → most + 1 ≡ deeper → less ≤ more → IsShortUnder sizes order most less limit (child_or page.right (slice_get page.views at)) a count fault
          → IsShortUnder sizes order deeper more limit number a count fault
      under-child most deeper less more deep wide below levels tree trunks low is stands entries free within =
          let has = index-child sizes a number order levels tree page at is stands decoded kind in
          short-more sizes limit count fault a trunks (2 * has.below + less) (2 * levels + more) (omega (arith, has.levels_are))
          (below has.below has.child trunks (omega (arith, low, has.levels_are)) has.named_is has.stands (has.entries entries) free (λ n. omega (arith, within n, has.pages n)))

      -- or behind that in the page itself
      pub under-own : (most wide own more : ℕ) (b : Paged) → wide + own ≤ 2 + more → TakesUnder sizes wide (child_or page.right (slice_get page.views at)) a b → b.count ≤ max limit a.count
          → ((trunks : List Trunk) → IsFree sizes b trunks → IsShort sizes own limit b trunks count fault) → IsShortUnder sizes order most more limit number a count fault
      under-own most wide own more b enough below limited short levels tree trunks low is stands entries free within =
          let has = index-child sizes a number order levels tree page at is stands decoded kind in
          let hand = pages_of levels tree in
          let one = below has.below has.child hand trunks has.named_is has.stands free within has.pages in
          short-more sizes limit count fault a trunks (2 * has.below + wide + own) (2 * levels + more) (omega (arith, has.levels_are, enough))
          (short-then sizes limit count fault a b trunks one.rest (2 * has.below + wide) own (slack-taken sizes a b hand trunks (2 * has.below + wide) limit within one limited) (short one.rest (one.turns.freelist free)))

    -- What it says of the free pages and those up to the limit.
    pub short-full : (a : Paged) (trunks : List Trunk) (most : ℕ) → IsShort sizes (51 + most) limit a trunks count fault
        → IsOther fault ⊎ (IsFull count limit fault × (length (free_pages trunks) + (limit - a.count) < 54 + most))
    short-full a trunks most (inl other) = inl other
    short-full a trunks most (inr full) = inr (full.0, omega (arith, full.1, due_pages-least sizes.size limit, due_pages-most sizes.size a.count))

-- what is refused of a leaf, or of the root of one
pub under-result : {T F : Type 0} (sizes : Sizes) (order : KeyOrder) (most more limit number count : ℕ) (a : Paged) (result : Result T (TreeFault F))
    → IfErr result (IsShortLeaf sizes order more limit number a count) → IfErr result (IsShortUnder sizes order most more limit number a count)
under-result sizes order most more limit number count a (Ok x) short = tt
under-result sizes order most more limit number count a (Err fault) short = under-short sizes order limit count fault most more number a short

-- The same of sizes, counts and numbers under other names.

pub at-same : (s z : Sizes) (page number most k count : ℕ) (pages : Pages) (new : Paged) → s ≡ z → page ≡ number → k ≡ count → TakesAt s page most (record { count = k; pages = pages }) new
    → TakesAt z number most (record { count = count; pages = pages }) new
at-same s z page number most k count pages new sizes is counts takes =
    subst (λ (x : Sizes). TakesAt x number most (record { count = count; pages = pages }) new) sizes
    (subst (λ (n : ℕ). TakesAt s n most (record { count = count; pages = pages }) new) is
    (subst (λ (n : ℕ). TakesAt s page most (record { count = n; pages = pages }) new) counts takes))

pub under-same : (s z : Sizes) (more page number k count : ℕ) (pages : Pages) (new : Paged) → s ≡ z → page ≡ number → k ≡ count → TakesUnder s more page (record { count = k; pages = pages }) new
    → TakesUnder z more number (record { count = count; pages = pages }) new
under-same s z more page number k count pages new sizes is counts takes =
    subst (λ (x : Sizes). TakesUnder x more number (record { count = count; pages = pages }) new) sizes
    (subst (λ (n : ℕ). TakesUnder s more n (record { count = count; pages = pages }) new) is
    (subst (λ (n : ℕ). TakesUnder s more page (record { count = n; pages = pages }) new) counts takes))

pub short-same : {F : Type 0} (s z : Sizes) (order : KeyOrder) (most more limit page number k count now : ℕ) (pages : Pages) (fault : TreeFault F) → s ≡ z → page ≡ number → k ≡ count
    → IsShortUnder s order most more limit page (record { count = k; pages = pages }) now fault → IsShortUnder z order most more limit number (record { count = count; pages = pages }) now fault
short-same s z order most more limit page number k count now pages fault sizes is counts short =
    subst (λ (x : Sizes). IsShortUnder x order most more limit number (record { count = count; pages = pages }) now fault) sizes
    (subst (λ (n : ℕ). IsShortUnder s order most more limit n (record { count = count; pages = pages }) now fault) is
    (subst (λ (n : ℕ). IsShortUnder s order most more limit page (record { count = n; pages = pages }) now fault) counts short))

pub leaf-same : {T F : Type 0} (s z : Sizes) (order : KeyOrder) (more limit page number k count now : ℕ) (pages : Pages) (result : Result T (TreeFault F)) → s ≡ z → page ≡ number → k ≡ count
    → IfErr result (IsShortLeaf s order more limit page (record { count = k; pages = pages }) now) → IfErr result (IsShortLeaf z order more limit number (record { count = count; pages = pages }) now)
leaf-same s z order more limit page number k count now pages result sizes is counts short =
    subst (λ (x : Sizes). IfErr result (IsShortLeaf x order more limit number (record { count = count; pages = pages }) now)) sizes
    (subst (λ (n : ℕ). IfErr result (IsShortLeaf s order more limit n (record { count = count; pages = pages }) now)) is
    (subst (λ (n : ℕ). IfErr result (IsShortLeaf s order more limit page (record { count = n; pages = pages }) now)) counts short))

pub trunks-same : {F : Type 0} (s z : Sizes) (most limit k count now : ℕ) (pages : Pages) (fault : TreeFault F) → s ≡ z → k ≡ count
    → ((trunks : List Trunk) → IsFree s (record { count = k; pages = pages }) trunks → IsShort s most limit (record { count = k; pages = pages }) trunks now fault)
    → (trunks : List Trunk) → IsFree z (record { count = count; pages = pages }) trunks → IsShort z most limit (record { count = count; pages = pages }) trunks now fault
trunks-same s z most limit k count now pages fault sizes counts short =
    subst (λ (x : Sizes). (trunks : List Trunk) → IsFree x (record { count = count; pages = pages }) trunks → IsShort x most limit (record { count = count; pages = pages }) trunks now fault) sizes
    (subst (λ (n : ℕ). (trunks : List Trunk) → IsFree s (record { count = n; pages = pages }) trunks → IsShort s most limit (record { count = n; pages = pages }) trunks now fault) counts short)

-- a call behind others that took pages, of which it is known that so many were taken
pub leaf-short : {F : Type 0} (sizes : Sizes) (order : KeyOrder) (most limit page count : ℕ) (a : Paged) (fault : TreeFault F) → ((trunks : List Trunk) → IsFree sizes a trunks → IsShort sizes most limit a trunks count fault)
    → IsShortLeaf sizes order most limit page a count fault
leaf-short sizes order most limit page count a fault short levels tree trunks is stands entries free = short trunks free

pub chain-short : {F : Type 0} (sizes : Sizes) (payload bytes : List ℕ) (own limit count : ℕ) (a b : Paged) (fault : TreeFault F) → MakesCell sizes payload bytes a b → b.count ≤ max limit a.count
    → ((trunks : List Trunk) → IsFree sizes b trunks → IsShort sizes own limit b trunks count fault)
    → (trunks : List Trunk) → IsFree sizes a trunks → IsShort sizes (own + overflow_pages sizes.usable (length payload)) limit a trunks count fault
chain-short sizes payload bytes own limit count a b fault makes limited short trunks free =
    let chain = overflow_pages sizes.usable (length payload) in
    let one = makes-take sizes payload bytes a b [] trunks makes free in
    short-more sizes limit count fault a trunks (chain + own) (own + chain) (omega arith)
    (short-then sizes limit count fault a b trunks one.rest chain own (slack-taken sizes a b [] trunks chain limit (λ n. omega (arith, free-in n)) one limited) (short one.rest (one.turns.freelist free)))
  where
    free-in : (n : ℕ) → times n (free_pages trunks) ≤ due sizes.size a.count n
    free-in n = let w = free-within sizes a trunks free n in omega (arith, w)

-- what is refused behind a put below a child, in the page itself
pub own-result : {T F : Type 0} (sizes : Sizes) (order : KeyOrder) (number : ℕ) (page : TreePage) (at : ℕ) (a : Paged) → IsDecoded (a.pages number) number sizes.usable page → page.kind ≡ IndexInterior → (limit count : ℕ)
    → (most wide own more : ℕ) (b : Paged) → wide + own ≤ 2 + more → TakesUnder sizes wide (child_or page.right (slice_get page.views at)) a b → b.count ≤ max limit a.count → (result : Result T (TreeFault F))
    → ((trunks : List Trunk) → IsFree sizes b trunks → IfErr result (IsShort sizes own limit b trunks count)) → IfErr result (IsShortUnder sizes order most more limit number a count)
own-result sizes order number page at a decoded kind limit count most wide own more b enough below limited (Ok x) short = tt
own-result sizes order number page at a decoded kind limit count most wide own more b enough below limited (Err fault) short =
    under-own sizes order limit count fault number page at a decoded kind most wide own more b enough below limited short

-- and behind the chain of an entry
pub chain-result : {T F : Type 0} (sizes : Sizes) (payload bytes : List ℕ) (own limit count : ℕ) (a b : Paged) (result : Result T (TreeFault F)) → MakesCell sizes payload bytes a b → b.count ≤ max limit a.count
    → ((trunks : List Trunk) → IsFree sizes b trunks → IfErr result (IsShort sizes own limit b trunks count))
    → (trunks : List Trunk) → IsFree sizes a trunks → IfErr result (IsShort sizes (own + overflow_pages sizes.usable (length payload)) limit a trunks count)
chain-result sizes payload bytes own limit count a b (Ok x) makes limited short trunks free = tt
chain-result sizes payload bytes own limit count a b (Err fault) makes limited short trunks free = chain-short sizes payload bytes own limit count a b fault makes limited short trunks free

-- the same pages and count are the same
pub same-paged : {P F : Type 0} (g : Ghosts P F) (before after : P) (pages : Pages) → g.count after ≡ g.count before → paged g after pages ≡ paged g before pages
same-paged g before after pages count = λ i. record { count = count i; pages = pages }
