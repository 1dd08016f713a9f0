-- How many pages are in use, one call after another: crates above cite these facts in their proofs.
use Rattle.std.proofs.Common.{◌≡◌, ◌≢◌, ℕ, suc, ◌+◌, ◌<◌, ◌≤◌, List, [], ◌∷◌, length, max, slice_index, ap, subst, inl, inr, arith}
use Rattle.std.proofs.lemmas.Bool.{cases_lt}
use Rattle.format_spec.specs.Header.{freelist_pages}
use Rattle.format_spec.specs.Page.{header_place}
use Rattle.page_spec.specs.Counts.{times}
use Rattle.page_spec.specs.FreePages.{due_pages}
use Rattle.page_spec.specs.FreePagesLaws.{due_pages-grows}
use Rattle.page_spec.specs.Freelists.{Trunk, free_pages}
use Rattle.page_spec.specs.PlacesLaws.{number_at-same}
use Rattle.tree_spec.specs.declared.TreeKind.{TreeKind}
use Rattle.tree_spec.specs.declared.fault.TreeFault.{TreeFault}
use Rattle.tree_spec.specs.Standing.{Sizes, Paged}
use Rattle.tree_spec.specs.Worlds.{IsFree, slack}
use Rattle.tree_spec.specs.Changes.{Turns, Within, Writes}
use Rattle.tree_spec.specs.ChangesLaws.{free-within, slack-kept}
use Rattle.put_spec.specs.Steps.{Spelled, Took, IsSettled, IsSpread, Releases}
use Rattle.tree_pages.specs.Takes.{IsShort, UsesBy}
use Rattle.tree_pages.specs.TakesLaws.{short-then}

-- page 1 keeps the database header where a page is written
header-written : (a b : Paged) (number : ℕ) → Writes number a b → (k : ℕ) → k < 100 → slice_index (b.pages 1) k ≡ slice_index (a.pages 1) k
header-written a b number writes k low =
    elim (cases_lt 1 number) [
      | inl above ↦ ap (λ (page : List ℕ). slice_index page k) (writes.others 1 (λ is. omega arith))
      | inr below ↦ elim (cases_lt number 1) [
        | inl none ↦ ap (λ (page : List ℕ). slice_index page k) (writes.others 1 (λ is. omega arith))
        | inr some ↦
            let first : number ≡ 1 = omega arith in
            subst (λ (n : ℕ). (j : ℕ) → j < header_place n → slice_index (b.pages n) j ≡ slice_index (a.pages n) j) first writes.front k low
      ]
    ]

module _ (sizes : Sizes) where
  pub uses-none : (a : Paged) → UsesBy sizes 0 a a
  uses-none a = omega arith

  pub uses-more : (a b : Paged) (most more : ℕ) → most ≤ more → UsesBy sizes most a b → UsesBy sizes more a b
  uses-more a b most more low uses = omega (arith, low, uses)

  -- one call after another
  pub uses-then : (a b c : Paged) (most more : ℕ) → UsesBy sizes most a b → UsesBy sizes more b c → UsesBy sizes (most + more) a c
  uses-then a b c most more one two = omega (arith, one, two)

  -- a page that was written
  pub writes-use : (a b : Paged) (number : ℕ) → Writes number a b → UsesBy sizes 0 a b
  writes-use a b number writes =
      omega (
        arith,
        ap (due_pages sizes.size) writes.count,
        number_at-same 4 (b.pages 1) 36 (a.pages 1) 36 (λ k low. header-written a b number writes (36 + k) (omega arith)),
      )

  -- pages in hand that became others
  pub turns-use : (a b : Paged) (x y : List ℕ) (p q : List Trunk) (most : ℕ) → Within sizes a x p → Turns sizes a x p b y q → IsFree sizes a p → length y ≤ length x + most → UsesBy sizes most a b
  turns-use a b x y p q most within turns free few =
      omega (
        arith,
        few,
        free.many,
        (turns.freelist free).many,
        due_pages-grows sizes.size a.count b.count turns.grows,
        slack-kept sizes a b x y p q b.count within turns (omega arith),
      )

  -- a page that was taken
  pub took-uses : (a b : Paged) (fresh : ℕ) (trunks : List Trunk) → Took sizes fresh a b → IsFree sizes a trunks → UsesBy sizes 1 a b
  took-uses a b fresh trunks took free =
      let t = took trunks free in
      turns-use a b [] (fresh ∷ []) trunks t.0 1 (free-within sizes a trunks free) t.1 free (omega arith)

  -- a page that was given back
  pub gives-use : (a b : Paged) (page : ℕ) (trunks : List Trunk) → Releases sizes page a b → IsFree sizes a trunks → Within sizes a (page ∷ []) trunks → times page (free_pages trunks) ≡ 0 → UsesBy sizes 0 a b
  gives-use a b page trunks gives free within apart =
      let t = gives trunks free apart in
      turns-use a b (page ∷ []) [] trunks t.0 0 within t.1 free (omega arith)

  module _ (levels : ℕ) (kind : TreeKind) where
    -- cells that were settled in a page take one page for each divider
    pub settled-uses : (dividers cells : List Spelled) (page right : ℕ) (a b : Paged) (trunks : List Trunk) → IsSettled sizes levels kind page right cells a b dividers → IsFree sizes a trunks
        → UsesBy sizes (length dividers) a b
    settled-uses [] cells page right a b trunks settled free = writes-use a b page settled.0
    settled-uses (divider ∷ dividers) cells page right a b trunks settled free =
        let between = settled.1 in
        let one = took-uses a between divider.view.child trunks settled.2.took free in
        let rest = settled-uses dividers settled.0 page right between b (settled.2.took trunks free).0 settled.3 ((settled.2.took trunks free).1.freelist free) in
        omega (arith, one, rest)

  -- so many fewer pages at most can be taken then
  pub slack-used : (a b : Paged) (p q : List Trunk) (most limit : ℕ) → IsFree sizes a p → IsFree sizes b q → a.count ≤ b.count → b.count ≤ max limit a.count → UsesBy sizes most a b
      → slack sizes a limit p ≤ slack sizes b limit q + most
  slack-used a b p q most limit free later grows limited uses =
      let low = due_pages-grows sizes.size a.count b.count grows in
      elim (cases_lt limit b.count) [
        | inl over ↦
            let same : b.count ≡ a.count = omega (arith, limited, grows, over) in
            omega (arith, free.many, later.many, uses, ap (due_pages sizes.size) same)
        | inr under ↦ omega (arith, free.many, later.many, uses, low, due_pages-grows sizes.size b.count limit under)
      ]

  -- a call that fails behind others that used pages
  pub short-used : {F : Type 0} (limit count : ℕ) (fault : TreeFault F) (a b : Paged) (p q : List Trunk) (most more : ℕ) → IsFree sizes a p → IsFree sizes b q → a.count ≤ b.count → b.count ≤ max limit a.count
      → UsesBy sizes most a b → IsShort sizes more limit b q count fault → IsShort sizes (most + more) limit a p count fault
  short-used limit count fault a b p q most more free later grows limited uses short =
      short-then sizes limit count fault a b p q most more (slack-used a b p q most limit free later grows limited uses) short
