-- Changes join, and a change of one tree gives the world after it: crates above cite these facts in their proofs.
use Rattle.std.proofs.Common.{◌≡◌, ◌≢◌, ℕ, ◌+◌, ◌<◌, ◌≤◌, ◌⊎◌, List, [], ◌∷◌, ◌++◌, length, map, max, drop, slice_index, refl, ap, ◌∙◌, subst, inl, inr, arith, sym, length-drop}
use Rattle.std.proofs.Math.Path.{subst⁻¹}
use Rattle.std.specs.List.{flat_map, AllByRecursion, AllPairs}
use Rattle.std.proofs.lemmas.Bool.{cases_lt, cases_eq}
use Rattle.std.proofs.lemmas.List.{ext_get_or, get_or-drop}
use Rattle.format_spec.specs.Header.{freelist_trunk}
use Rattle.format_spec.specs.Page.{header_place}
use Rattle.page_spec.specs.PlacesLaws.{number_at-same}
use Rattle.page_spec.specs.Freelists.{Trunk, free_pages}
use Rattle.page_spec.specs.FreelistsLaws.{IsFreelist-same, free-in_range}
use Rattle.page_spec.specs.FreePages.{due, due_pages, KeepsFirstPage}
use Rattle.page_spec.specs.FreePagesLaws.{due-within, due-most, due-grows, due-past, due-number, due-counted, due_pages-grows}
use Rattle.page_spec.specs.Counts.{times}
use Rattle.page_spec.specs.CountsLaws.{distinct-once, up_to, up_to-sum, up_to-same, times-counted}
use Rattle.tree_spec.specs.Trees.{Rooted, root_of, pages_in}
use Rattle.tree_spec.specs.Standing.{Sizes, Paged, SamePage, Keeps, IsRoot}
use Rattle.tree_spec.specs.StandingLaws.{IsRoot-kept, keeps-front, keeps-back}
use Rattle.tree_spec.specs.PagesLaws.{SamePage-whole}
use Rattle.tree_spec.specs.Worlds.{with_tree, greatest_count, IsFree, IsWorld, slack}
use Rattle.tree_spec.specs.WorldsLaws.{times-world, all-front, all-back, all-join}
use Rattle.tree_spec.specs.Changes.{Writes, Within, Turns}

module _ (sizes : Sizes) where
  -- one change after another
  pub Turns-then : (a b c : Paged) (x y z : List ℕ) (p q r : List Trunk) → Within sizes a x p → Turns sizes a x p b y q → Turns sizes b y q c z r → Turns sizes a x p c z r
  Turns-then a b c x y z p q r within s t = record {
    grows = omega (arith, s.grows, t.grows);
    kept = λ n is_due no_x no_p.
        let more = due-grows sizes.size a.count b.count n s.grows in
        let most = due-most sizes.size b.count n in
        let balance = s.balance n in
        t.kept n (omega arith) (omega arith) (omega arith) ∙ s.kept n is_due no_x no_p;
    header = λ k low outside. t.header k low outside ∙ s.header k low outside;
    freelist = λ free. t.freelist (s.freelist free);
    balance = λ n. omega (arith, s.balance n, t.balance n);
  }

  -- the same change with more pages in hand
  pub Turns-wide : (a b : Paged) (x y wide wider : List ℕ) (p q : List Trunk) (more : ℕ → ℕ) → ((n : ℕ) → times n wide ≡ times n x + more n) → ((n : ℕ) → times n wider ≡ times n y + more n)
      → Turns sizes a x p b y q → Turns sizes a wide p b wider q
  Turns-wide a b x y wide wider p q more one two t = record {
    grows = t.grows;
    kept = λ n is_due no_wide no_p. t.kept n is_due (omega (arith, one n)) no_p;
    header = t.header;
    freelist = t.freelist;
    balance = λ n. omega (arith, t.balance n, one n, two n);
  }

  -- nothing changes but the order of the pages in hand
  pub Turns-same : (a : Paged) (x y : List ℕ) (p : List Trunk) → ((n : ℕ) → times n y ≡ times n x) → Turns sizes a x p a y p
  Turns-same a x y p same = record {
    grows = omega arith;
    kept = λ n is_due no_x no_p. refl;
    header = λ k low outside. refl;
    freelist = λ free. free;
    balance = λ n. omega (arith, same n);
  }

  -- what is in hand after a change, and the free pages, stand once at most
  pub Turns-within : (a b : Paged) (x y : List ℕ) (p q : List Trunk) → Within sizes a x p → Turns sizes a x p b y q → Within sizes b y q
  Turns-within a b x y p q within t n = omega (arith, within n, t.balance n)

  -- pages that are neither in hand nor free are kept
  pub Turns-keeps : (a b : Paged) (x y : List ℕ) (p q : List Trunk) (others : List ℕ) → ((n : ℕ) → times n others + times n x + times n (free_pages p) ≤ due sizes.size a.count n)
      → Turns sizes a x p b y q → Keeps others a b
  Turns-keeps a b x y p q others apart t = record {
    same = λ n some.
        let most = due-most sizes.size a.count n in
        let here = apart n in
        t.kept n (omega arith) (omega arith) (omega arith);
    grows = t.grows;
  }

  -- free pages stand among the due pages, each once
  pub free-within : (a : Paged) (trunks : List Trunk) → IsFree sizes a trunks → Within sizes a [] trunks
  free-within a trunks free n =
      elim (cases_lt 0 (times n (free_pages trunks))) [
        | inl some ↦
            let is = free-in_range sizes.size sizes.usable a.pages a.count (freelist_trunk (a.pages 1)) trunks free.named n some in
            omega (arith, due-number sizes.size a.count n is, distinct-once (free_pages trunks) free.differ n)
        | inr none ↦ omega arith
      ]

  -- the freelist is as it was where its pages are, and the database header
  pub freelist-kept : (a b : Paged) (trunks : List Trunk) → Keeps (free_pages trunks) a b → ((k : ℕ) → k < 100 → slice_index (b.pages 1) k ≡ slice_index (a.pages 1) k)
      → IsFree sizes a trunks → IsFree sizes b trunks
  freelist-kept a b trunks keeps header is =
      let field = λ (place : ℕ) (room : place + 4 ≤ 100). number_at-same 4 (b.pages 1) place (a.pages 1) place (λ k low. header (place + k) (omega arith)) in
      let whole = λ (n : ℕ) (some : 0 < times n (free_pages trunks)). SamePage-whole n (a.pages n) (b.pages n)
      (free-in_range sizes.size sizes.usable a.pages a.count (freelist_trunk (a.pages 1)) trunks is.named n some).behind_first (keeps.same n some) in
      IsFreelist-same sizes.size sizes.usable a.pages b.pages a.count b.count trunks whole keeps.grows (field 32 (omega arith)) (field 36 (omega arith)) is

  -- page 1 is the same as far as trees see it, where only the size and the freelist's fields changed
  first-kept : (old new : List ℕ) → KeepsFirstPage old new → SamePage 1 old new
  first-kept old new keeps =
      ext_get_or 0 (drop 100 new) (drop 100 old) (omega (arith, length-drop 100 new, length-drop 100 old, keeps.long))
      (λ k low. get_or-drop 100 new k 0 ∙ keeps.rest (100 + k) (inr (omega arith)) ∙ sym (get_or-drop 100 old k 0))

  -- A change of which is known what it did to single pages, as a page that is taken from the freelist or given back.
  pub Turns-few : (a b : Paged) (x y : List ℕ) (p q : List Trunk) → a.count ≤ b.count
      → ((n : ℕ) → n ≢ 1 → n ≤ a.count → times n x ≡ 0 → times n (free_pages p) ≡ 0 → b.pages n ≡ a.pages n) → KeepsFirstPage (a.pages 1) (b.pages 1) → (IsFree sizes a p → IsFree sizes b q)
      → ((n : ℕ) → times n y + times n (free_pages q) + due sizes.size a.count n ≡ times n x + times n (free_pages p) + due sizes.size b.count n) → Turns sizes a x p b y q
  Turns-few a b x y p q grows others first freelist balance = record {
    grows = grows;
    kept = λ n is_due no_x no_p.
        elim (cases_eq n 1) [
          | inl one ↦ subst⁻¹ (λ (m : ℕ). SamePage m (a.pages m) (b.pages m)) one (first-kept (a.pages 1) (b.pages 1) first)
          | inr other ↦ ap (drop (header_place n)) (others n other (due-within sizes.size a.count n is_due) no_x no_p)
        ];
    header = λ k low outside. first.rest k outside;
    freelist = freelist;
    balance = balance;
  }

  header-written : (a b : Paged) (number : ℕ) → Writes number a b → (k : ℕ) → k < 100 → slice_index (b.pages 1) k ≡ slice_index (a.pages 1) k
  header-written a b number writes k low =
      elim (cases_lt 1 number) [
        | inl above ↦ ap (λ (page : List ℕ). slice_index page k) (writes.others 1 (λ is. omega arith))
        | inr below ↦ elim (cases_lt number 1) [
          | inl none ↦ ap (λ (page : List ℕ). slice_index page k) (writes.others 1 (λ is. omega arith))
          | inr some ↦
              let first : number ≡ 1 = omega arith in
              subst (λ (n : ℕ). (j : ℕ) → j < header_place n → slice_index (b.pages n) j ≡ slice_index (a.pages n) j) first writes.front k low
        ]
      ]

  -- a page in hand is written
  pub Turns-write : (a b : Paged) (number : ℕ) (hand : List ℕ) (trunks : List Trunk) → Within sizes a hand trunks → 0 < times number hand → Writes number a b → Turns sizes a hand trunks b hand trunks
  Turns-write a b number hand trunks within some writes =
      let header = header-written a b number writes in
      let other = λ (n : ℕ) (none : times n hand ≡ 0). writes.others n (λ is. let same = ap (λ (m : ℕ). times m hand) is in omega arith) in
      record {
        grows = omega (arith, writes.count);
        kept = λ n is_due no_hand no_free. ap (drop (header_place n)) (other n no_hand);
        header = λ k low outside. header k low;
        freelist = freelist-kept a b trunks
            (
            record {
              same = λ n free. ap (drop (header_place n)) (other n (let here = within n in let most = due-most sizes.size a.count n in omega arith));
              grows = omega (arith, writes.count);
            }
            )
            header;
        balance = λ n. omega (arith, ap (λ (count : ℕ). due sizes.size count n) writes.count);
      }

  trees-kept : (a b : Paged) (trees : List Rooted) → Keeps (flat_map pages_in trees) a b → AllByRecursion (IsRoot sizes a) trees → AllByRecursion (IsRoot sizes b) trees
  trees-kept a b [] keeps all = tt
  trees-kept a b (tree ∷ trees) keeps all = (
    IsRoot-kept sizes a b tree (keeps-front a b (pages_in tree) (flat_map pages_in trees) keeps) all.0,
    trees-kept a b trees (keeps-back a b (pages_in tree) (flat_map pages_in trees) keeps) all.1,
  )

  roots-same : (front back : List Rooted) (old new : Rooted) → root_of new ≡ root_of old → map root_of (front ++ new ∷ back) ≡ map root_of (front ++ old ∷ back)
  roots-same [] back old new same = ap (λ (n : ℕ). n ∷ map root_of back) same
  roots-same (tree ∷ front) back old new same = ap (λ (ns : List ℕ). root_of tree ∷ ns) (roots-same front back old new same)

  -- a change of one tree and of the freelist gives the world with that tree in its new form
  pub world-after : (a b : Paged) (front back : List Rooted) (old new : Rooted) (p q : List Trunk) → IsWorld sizes a (with_tree front old back p) → Turns sizes a (pages_in old) p b (pages_in new) q
      → IsRoot sizes b new → root_of new ≡ root_of old → b.count ≤ greatest_count → IsWorld sizes b (with_tree front new back q)
  world-after a b front back old new p q world t is root few =
      let apart-front = λ (n : ℕ). let e = times-world n front old back p in let o = world.once n in
      let fits : times n (flat_map pages_in front) + times n (pages_in old) + times n (free_pages p) ≤ due sizes.size a.count n = omega arith in fits in
      let apart-back = λ (n : ℕ). let e = times-world n front old back p in let o = world.once n in
      let fits : times n (flat_map pages_in back) + times n (pages_in old) + times n (free_pages p) ≤ due sizes.size a.count n = omega arith in fits in
      record {
        trees = all-join (IsRoot sizes b) front (new ∷ back)
            (trees-kept a b front (Turns-keeps a b (pages_in old) (pages_in new) p q (flat_map pages_in front) apart-front t) (all-front (IsRoot sizes a) front (old ∷ back) world.trees))
            (is, trees-kept a b back (Turns-keeps a b (pages_in old) (pages_in new) p q (flat_map pages_in back) apart-back t) (all-back (IsRoot sizes a) front (old ∷ back) world.trees).1);
        rise = subst⁻¹ (AllPairs (λ (x y : ℕ). x < y)) (roots-same front back old new root) world.rise;
        freelist = t.freelist world.freelist;
        once = λ n. omega (arith, times-world n front old back p, times-world n front new back q, world.once n, t.balance n);
        few = few;
      }

  -- Together the pages in hand and those that can still be taken are as many as before: slack falls by one for each page taken, and rises by one for each given back.
  pub slack-kept : (a b : Paged) (x y : List ℕ) (p q : List Trunk) (limit : ℕ) → Within sizes a x p → Turns sizes a x p b y q → b.count ≤ max limit a.count
      → slack sizes b limit q + length y ≡ slack sizes a limit p + length x
  slack-kept a b x y p q limit within t most =
      let size = sizes.size in
      let last = b.count in
      let later = Turns-within a b x y p q within t in
      let limited : b.count ≤ max limit a.count → (due_pages size b.count ≤ due_pages size limit) ⊎ ((due_pages size limit ≤ due_pages size a.count) × (due_pages size b.count ≡ due_pages size a.count)) =
      λ m. elim (cases_lt limit b.count) [
        | inl over ↦ inr (due_pages-grows size limit a.count (omega arith), ap (due_pages size) (omega (arith, t.grows)))
        | inr under ↦ inl (due_pages-grows size b.count limit under)
      ] in
      let counted : up_to (λ n. times n y + times n (free_pages q) + due size a.count n) last ≡ up_to (λ n. times n x + times n (free_pages p) + due size b.count n) last =
      up_to-same (λ n. times n y + times n (free_pages q) + due size a.count n) (λ n. times n x + times n (free_pages p) + due size b.count n) last t.balance in
      omega (
        arith,
        counted,
        up_to-sum (λ n. times n y + times n (free_pages q)) (due size a.count) last,
        up_to-sum (λ n. times n y) (λ n. times n (free_pages q)) last,
        up_to-sum (λ n. times n x + times n (free_pages p)) (due size b.count) last,
        up_to-sum (λ n. times n x) (λ n. times n (free_pages p)) last,
        times-counted y last (λ n past. omega (arith, later n, due-past size b.count n past)),
        times-counted (free_pages q) last (λ n past. omega (arith, later n, due-past size b.count n past)),
        times-counted x last (λ n past. omega (arith, within n, due-past size a.count n (omega (arith, past, t.grows)))),
        times-counted (free_pages p) last (λ n past. omega (arith, within n, due-past size a.count n (omega (arith, past, t.grows)))),
        due-counted size a.count last t.grows,
        due-counted size b.count last (omega arith),
        due_pages-grows size a.count b.count t.grows,
        limited most,
      )
