-- Calls that take pages, one after the other: crates above cite these facts in their proofs.
use Rattle.std.proofs.Common.{◌≡◌, ℕ, suc, ◌+◌, ◌<◌, ◌≤◌, List, [], ◌∷◌, length, max, Result, IfErr, refl, ap, ◌∙◌, subst, inl, inr, arith}
use Rattle.std.proofs.Math.Path.{subst⁻¹}
use Rattle.std.proofs.lemmas.Bool.Decides.{nat_tests}
use Rattle.page_spec.specs.Counts.{times}
use Rattle.page_spec.specs.FreePages.{due_pages}
use Rattle.page_spec.specs.Freelists.{Trunk, IsFreelist}
use Rattle.page_store.specs.declared.store.PageRead.{Ghosts}
use Rattle.page_store.specs.Store.{Stays}
use Rattle.page_store.specs.StoreLaws.{at-sizes}
use Rattle.tree_spec.specs.declared.TreeKind.{TreeKind}
use Rattle.tree_spec.specs.declared.fault.TreeFault.{TreeFault}
use Rattle.tree_spec.specs.Standing.{Sizes, Paged}
use Rattle.tree_spec.specs.Worlds.{IsFree, slack}
use Rattle.tree_spec.specs.Changes.{Within, Writes}
use Rattle.tree_spec.specs.ChangesLaws.{Turns-same, Turns-then, Turns-wide, Turns-within, Turns-write, slack-kept}
use Rattle.put_spec.specs.Steps.{Spelled, Took, IsSettled, IsSpread}
use Rattle.tree_pages.specs.Takes.{IsShort, RefusesShort, RisesBy, TakesAtMost}

-- the lock-byte page is one
pub due_pages-least : (size count : ℕ) → count ≤ due_pages size count + 1
unfolding due_pages
due_pages-least size count = grind (arith, nat_tests)

module _ (sizes : Sizes) where
  pub takes-none : (a : Paged) (hand : List ℕ) (trunks : List Trunk) → TakesAtMost sizes 0 hand a trunks a
  takes-none a hand trunks = record {
    later = hand;
    rest = trunks;
    turns = Turns-same sizes a hand hand trunks (λ n. refl);
    keeps = λ n. omega arith;
    few = omega arith;
  }

  pub takes-more : (a b : Paged) (hand : List ℕ) (trunks : List Trunk) (most more : ℕ) → most ≤ more → TakesAtMost sizes most hand a trunks b → TakesAtMost sizes more hand a trunks b
  takes-more a b hand trunks most more low takes = record {
    later = takes.later;
    rest = takes.rest;
    turns = takes.turns;
    keeps = takes.keeps;
    few = omega (arith, takes.few);
  }

  -- one call after another
  pub takes-then : (a b c : Paged) (hand : List ℕ) (trunks : List Trunk) (most more : ℕ) → Within sizes a hand trunks → (one : TakesAtMost sizes most hand a trunks b)
      → TakesAtMost sizes more one.later b one.rest c → TakesAtMost sizes (most + more) hand a trunks c
  takes-then a b c hand trunks most more within one two = record {
    later = two.later;
    rest = two.rest;
    turns = Turns-then sizes a b c hand one.later two.later trunks one.rest two.rest within one.turns two.turns;
    keeps = λ n. omega (arith, one.keeps n, two.keeps n);
    few = omega (arith, one.few, two.few);
  }

  pub takes-within : (a b : Paged) (hand : List ℕ) (trunks : List Trunk) (most : ℕ) → Within sizes a hand trunks → (one : TakesAtMost sizes most hand a trunks b) → Within sizes b one.later one.rest
  takes-within a b hand trunks most within one = Turns-within sizes a b hand one.later trunks one.rest within one.turns

  -- a page that was taken
  pub took-takes : (a b : Paged) (fresh : ℕ) (hand : List ℕ) (trunks : List Trunk) → Took sizes fresh a b → IsFree sizes a trunks → TakesAtMost sizes 1 hand a trunks b
  took-takes a b fresh hand trunks took free =
      let t = took trunks free in
      record {
        later = fresh ∷ hand;
        rest = t.0;
        turns = Turns-wide sizes a b [] (fresh ∷ []) hand (fresh ∷ hand) trunks t.0 (λ n. times n hand) (λ n. omega arith) (λ n. omega arith) t.1;
        keeps = λ n. omega arith;
        few = omega arith;
      }

  -- a page in hand that was written
  pub writes-takes : (a b : Paged) (number : ℕ) (hand : List ℕ) (trunks : List Trunk) → Within sizes a hand trunks → 0 < times number hand → Writes number a b → TakesAtMost sizes 0 hand a trunks b
  writes-takes a b number hand trunks within some writes = record {
    later = hand;
    rest = trunks;
    turns = Turns-write sizes a b number hand trunks within some writes;
    keeps = λ n. omega arith;
    few = omega arith;
  }

  module _ (levels : ℕ) (kind : TreeKind) where
    -- cells whose fronts were put on pages of their own take one page for each divider
    pub spread-takes : (dividers cells left : List Spelled) (a b : Paged) (hand : List ℕ) (trunks : List Trunk) → IsSpread sizes levels kind cells a b dividers left → IsFree sizes a trunks
        → Within sizes a hand trunks → TakesAtMost sizes (length dividers) hand a trunks b
    spread-takes [] cells left a b hand trunks spread free within = subst⁻¹ (λ (x : Paged). TakesAtMost sizes 0 hand a trunks x) spread.1 (takes-none a hand trunks)
    spread-takes (divider ∷ dividers) cells left a b hand trunks spread free within =
        let between = spread.1 in
        let one = took-takes a between divider.view.child hand trunks spread.2.took free in
        let later = takes-within a between hand trunks 1 within one in
        let rest = spread-takes dividers spread.0 left between b one.later one.rest spread.3 (one.turns.freelist free) later in
        takes-more a b hand trunks (1 + length dividers) (suc (length dividers)) (omega arith) (takes-then a between b hand trunks 1 (length dividers) within one rest)

    -- so do cells that were settled in a page in hand
    pub settled-takes : (dividers cells : List Spelled) (page right : ℕ) (a b : Paged) (hand : List ℕ) (trunks : List Trunk) → IsSettled sizes levels kind page right cells a b dividers
        → IsFree sizes a trunks → Within sizes a hand trunks → 0 < times page hand → TakesAtMost sizes (length dividers) hand a trunks b
    settled-takes [] cells page right a b hand trunks settled free within some = writes-takes a b page hand trunks within some settled.0
    settled-takes (divider ∷ dividers) cells page right a b hand trunks settled free within some =
        let between = settled.1 in
        let one = took-takes a between divider.view.child hand trunks settled.2.took free in
        let later = takes-within a between hand trunks 1 within one in
        let rest = settled-takes dividers settled.0 page right between b one.later one.rest settled.3 (one.turns.freelist free) later (omega (arith, one.keeps page)) in
        takes-more a b hand trunks (1 + length dividers) (suc (length dividers)) (omega arith) (takes-then a between b hand trunks 1 (length dividers) within one rest)

  -- so many fewer pages at most can be taken then
  pub slack-taken : (a b : Paged) (hand : List ℕ) (trunks : List Trunk) (most limit : ℕ) → Within sizes a hand trunks → (one : TakesAtMost sizes most hand a trunks b) → b.count ≤ max limit a.count
      → slack sizes a limit trunks ≤ slack sizes b limit one.rest + most
  slack-taken a b hand trunks most limit within one limited = omega (arith, slack-kept sizes a b hand one.later trunks one.rest limit within one.turns limited, one.few)

  module _ {F : Type 0} (limit count : ℕ) (fault : TreeFault F) where
    -- a call that fails behind others that took pages
    pub short-then : (a b : Paged) (p q : List Trunk) (most more : ℕ) → slack sizes a limit p ≤ slack sizes b limit q + most → IsShort sizes more limit b q count fault
        → IsShort sizes (most + more) limit a p count fault
    short-then a b p q most more low (inl other) = inl other
    short-then a b p q most more low (inr full) = inr (full.0, omega (arith, low, full.1))

    pub short-more : (a : Paged) (p : List Trunk) (most more : ℕ) → most ≤ more → IsShort sizes most limit a p count fault → IsShort sizes more limit a p count fault
    short-more a p most more low (inl other) = inl other
    short-more a p most more low (inr full) = inr (full.0, omega (arith, low, full.1))

module _ {P F : Type 0} (g : Ghosts P F) where
  -- one call after another
  pub rises-then : (a b c : P) (most more : ℕ) → g.size b ≡ g.size a → RisesBy g most a b → RisesBy g more b c → RisesBy g (most + more) a c
  rises-then a b c most more size one two = omega (arith, one, subst (λ (s : ℕ). due_pages s (g.count c) ≤ due_pages s (g.count b) + more) size two)

  pub rises-none : (a b : P) → g.count b ≡ g.count a → RisesBy g 0 a b
  rises-none a b same = omega (arith, ap (due_pages (g.size a)) same)

  -- a call behind one that only read
  pub rises-read : (most : ℕ) (a b c : P) → g.size b ≡ g.size a → g.count b ≡ g.count a → RisesBy g most b c → RisesBy g most a c
  rises-read most a b c size count rises = omega (arith, subst (λ (s : ℕ). due_pages s (g.count c) ≤ due_pages s (g.count b) + most) size rises, ap (due_pages (g.size a)) count)

  -- the same where it fails
  pub refuses-read : {T : Type 0} (most limit : ℕ) (a b c : P) (result : Result T (TreeFault F)) → Stays g a b → g.count b ≡ g.count a → g.pages b ≡ g.pages a → RefusesShort g most limit b c result
      → RefusesShort g most limit a c result
  refuses-read most limit a b c result stays count pages refuses m trunks told free =
      at-sizes g stays count
      (λ size usable n. IsFreelist m size usable n trunks → IfErr result (IsShort (record { size = size; usable = usable }) most limit (record { count = n; pages = m }) trunks (g.count c)))
      (refuses m trunks (pages ∙ told)) free
