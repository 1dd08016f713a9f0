-- How many pages a level of a delete from an index uses: crates above cite these facts in their proofs.
use Rattle.std.proofs.Common.{◌≡◌, ℕ, ◌+◌, ◌∙◌, List, [], ◌∷◌, Option, Some, IfSome, length, refl, ap, subst, arith}
use Rattle.std.proofs.Math.Path.{subst⁻¹}
use Rattle.format_spec.specs.Header.{freelist_pages}
use Rattle.page_spec.specs.Counts.{hit, times}
use Rattle.page_spec.specs.CountsLaws.{hit-itself}
use Rattle.page_spec.specs.FreePages.{due_pages}
use Rattle.page_spec.specs.FreePagesLaws.{due-most}
use Rattle.page_spec.specs.Freelists.{Trunk, free_pages}
use Rattle.page_spec.specs.Pages.{Pages}
use Rattle.page_spec.specs.Rooms.{right_kept}
use Rattle.page_store.specs.declared.store.PageRead.{Ghosts}
use Rattle.page_store.specs.StoreLaws.{IfSome-told}
use Rattle.tree_spec.specs.declared.TreeKind.TheVariants.{Index}
use Rattle.tree_spec.specs.declared.fault.TreeFault.{TreeFault}
use Rattle.tree_spec.specs.Trees.{kind_at}
use Rattle.tree_spec.specs.Standing.{Sizes, Paged}
use Rattle.tree_spec.specs.Changes.{Within}
use Rattle.tree_spec.specs.ChangesLaws.{Turns-wide, Turns-within}
use Rattle.tree_spec.specs.Worlds.{IsFree}
use Rattle.put_spec.specs.ImagesLaws.{length-of}
use Rattle.put_spec.specs.Steps.{Releases, Spelled}
use Rattle.tree_pages.specs.Takes.{IsShort, UsesBy}
use Rattle.tree_pages.specs.TakesLaws.{settled-takes, short-more}
use Rattle.tree_pages.specs.UsesLaws.{gives-use, settled-uses, short-used, uses-more, uses-then}
use Rattle.tree_pages.specs.Writers.{Becomes, paged, sizes_of}
use Rattle.tree_walk.specs.declared.page.TreePage.{TreePage}
use Rattle.tree_walk.specs.Pages.{IsDecoded}
use Rattle.tree_level.specs.declared.cells.Change.{Change}
use Rattle.tree_level.specs.Changes.{ChangesAt, changed}
use Rattle.tree_level.specs.ChangesLaws.{spelled-read}
use Rattle.tree_level.specs.Levels.{AreSpelled}
use Rattle.index_delete.specs.Needs.{Whenever}

-- Pages that a store tells.

module _ {P F : Type 0} (g : Ghosts P F) where
  pub same-told : (s : P) (old new : Pages) → g.pages s ≡ Some old → g.pages s ≡ Some new → old ≡ new
  same-told s old new one two = IfSome-told (λ p. old ≡ p) new two (subst⁻¹ (λ (o : Option Pages). IfSome o (λ p. old ≡ p)) one refl)

  pub always : (R : Paged → Paged → Type 0) (before after : P) → Becomes g before after R → Whenever g before after R
  always R before after went old told new later =
      let r = went old told in
      subst (λ (n : Pages). R (paged g before old) (paged g after n)) (same-told after r.0 new r.1 later) r.2

  -- a call that only read
  pub whenever-none : (sizes : Sizes) (a b : P) → g.pages b ≡ g.pages a → g.count b ≡ g.count a → Whenever g a b (UsesBy sizes 0)
  whenever-none sizes a b pages count old told new later =
      omega (arith, ap (due_pages sizes.size) count, ap (λ (p : Pages). freelist_pages (p 1)) (same-told b old new (pages ∙ told) later))

  -- a call behind one that only read
  pub whenever-read : (R : Sizes → Paged → Paged → Type 0) (a b c : P) → sizes_of g b ≡ sizes_of g a → g.pages b ≡ g.pages a → g.count b ≡ g.count a → Whenever g b c (R (sizes_of g b)) → Whenever g a c (R (sizes_of g a))
  whenever-read R a b c sizes pages count uses old told new later =
      subst (λ (n : ℕ). R (sizes_of g a) (record { count = n; pages = old }) (paged g c new)) count
      (subst (λ (s : Sizes). R s (paged g b old) (paged g c new)) sizes (uses old (pages ∙ told) new later))

  pub free-read : (m : Pages) (trunks : List Trunk) (a b : P) → sizes_of g b ≡ sizes_of g a → g.count b ≡ g.count a → IsFree (sizes_of g a) (paged g a m) trunks → IsFree (sizes_of g b) (paged g b m) trunks
  free-read m trunks a b sizes count free =
      subst⁻¹ (λ (s : Sizes). IsFree s (paged g b m) trunks) sizes (subst⁻¹ (λ (n : ℕ). IsFree (sizes_of g a) (record { count = n; pages = m }) trunks) count free)

-- Pages that a level uses.

module _ (sizes : Sizes) where
  module _ (page : TreePage) (number levels : ℕ) (change : Change) (comes dividers : List (List ℕ)) (a b : Paged) (decoded : IsDecoded page.bytes page.number sizes.usable page) (kind : kind_at Index levels ≡ page.kind)
      (coming : (cells : List Spelled) × AreSpelled page.kind sizes.usable cells comes) (changes : ChangesAt sizes number page change comes dividers a b) (trunks : List Trunk) (free : IsFree sizes a trunks) where
    -- cells of a page that were changed use one page for each divider
    pub changes-use : UsesBy sizes (length dividers) a b
    changes-use =
        let read = spelled-read sizes.usable page decoded in
        let s = changes levels Index read.0 coming.0 kind read.1 coming.1 in
        uses-more sizes a b (length s.up) (length dividers) (omega (arith, length-of (λ (cell : Spelled). cell.bytes) s.up, ap length s.up_are.bytes_are))
        (settled-uses sizes levels Index s.up (changed read.0 change.at change.goes coming.0) number (right_kept page.kind change.right) a b trunks s.settled free)

    -- and the freelist is sound then
    pub changes-free : Within sizes a (number ∷ []) trunks → (rest : List Trunk) × IsFree sizes b rest
    changes-free within =
        let read = spelled-read sizes.usable page decoded in
        let s = changes levels Index read.0 coming.0 kind read.1 coming.1 in
        let t = settled-takes sizes levels Index s.up (changed read.0 change.at change.goes coming.0) number (right_kept page.kind change.right) a b (number ∷ []) trunks s.settled free within (omega (arith, hit-itself number)) in
        (t.rest, t.turns.freelist free)

  -- A page in hand is given back.
  module _ (gone : ℕ) (a b : Paged) (gives : Releases sizes gone a b) (trunks : List Trunk) (free : IsFree sizes a trunks) (within : Within sizes a (gone ∷ []) trunks) where
    apart : times gone (free_pages trunks) ≡ 0
    apart = omega (arith, within gone, due-most sizes.size a.count gone, hit-itself gone)

    pub gives-open : (rest : List Trunk) × IsFree sizes b rest × UsesBy sizes 0 a b
    gives-open = let t = gives trunks free apart in (t.0, t.1.freelist free, gives-use sizes a b gone trunks gives free within apart)

    -- with another page in hand
    pub gives-within : (kept : ℕ) → Within sizes a (kept ∷ gone ∷ []) trunks → (rest : List Trunk) × IsFree sizes b rest × Within sizes b (kept ∷ []) rest
    gives-within kept both =
        let t = gives trunks free apart in (
          t.0,
          t.1.freelist free,
          Turns-within sizes a b (kept ∷ gone ∷ []) (kept ∷ []) trunks t.0 both
              (Turns-wide sizes a b (gone ∷ []) [] (kept ∷ gone ∷ []) (kept ∷ []) trunks t.0 (hit kept) (λ n. omega arith) (λ n. omega arith) t.1),
        )

    -- what is refused then
    pub gives-short : {F : Type 0} (most limit count : ℕ) (fault : TreeFault F) → b.count ≡ a.count → ((rest : List Trunk) → IsFree sizes b rest → IsShort sizes most limit b rest count fault) → IsShort sizes most limit a trunks count fault
    gives-short most limit count fault same short =
        let o = gives-open in
        short-more sizes limit count fault a trunks (0 + most) most (omega arith)
        (short-used sizes limit count fault a b trunks o.0 0 most free o.1 (omega (arith, same)) (omega (arith, same)) o.2 (short o.0 o.1))

    -- a page in hand has cells changed after another one was given back
    pub joined-uses : (page : TreePage) (number levels : ℕ) (change : Change) (comes dividers : List (List ℕ)) (c : Paged) → IsDecoded page.bytes page.number sizes.usable page → kind_at Index levels ≡ page.kind
        → (cells : List Spelled) × AreSpelled page.kind sizes.usable cells comes → ChangesAt sizes number page change comes dividers b c → Within sizes a (number ∷ gone ∷ []) trunks
        → (rest : List Trunk) × IsFree sizes c rest × UsesBy sizes (length dividers) a c
    joined-uses page number levels change comes dividers c decoded kind coming changes both =
        let o = gives-within number both in
        let f = changes-free page number levels change comes dividers b c decoded kind coming changes o.0 o.1 o.2 in
        let u = changes-use page number levels change comes dividers b c decoded kind coming changes o.0 o.1 in
        (f.0, f.1, uses-more sizes a c (0 + length dividers) (length dividers) (omega arith) (uses-then sizes a b c 0 (length dividers) gives-open.2 u))

-- The same of sizes and counts under other names.
pub trunks-same : {F : Type 0} (s z : Sizes) (most limit k count now : ℕ) (pages : Pages) (fault : TreeFault F) → s ≡ z → k ≡ count
    → ((trunks : List Trunk) → IsFree s (record { count = k; pages = pages }) trunks → IsShort s most limit (record { count = k; pages = pages }) trunks now fault)
    → (trunks : List Trunk) → IsFree z (record { count = count; pages = pages }) trunks → IsShort z most limit (record { count = count; pages = pages }) trunks now fault
trunks-same s z most limit k count now pages fault sizes counts short =
    subst (λ (x : Sizes). (trunks : List Trunk) → IsFree x (record { count = count; pages = pages }) trunks → IsShort x most limit (record { count = count; pages = pages }) trunks now fault) sizes
    (subst (λ (n : ℕ). (trunks : List Trunk) → IsFree s (record { count = n; pages = pages }) trunks → IsShort s most limit (record { count = n; pages = pages }) trunks now fault) counts short)
