-- What pages hold while an overflow chain is written, its last page first.
use Rattle.std.proofs.Common.{◌≡◌, ℕ, suc, ◌+◌, ◌-◌, ◌*◌, ◌/◌, ◌%◌, ◌^◌, ◌<◌, ◌≤◌, ◌==◌, if◌then◌else◌, Bool, true, false, List, [], ◌∷◌, length, max, take, drop, refl, sym, ap, ap₂, ◌∙◌, subst, inl, inr, arith, eq-eqb, length-drop}
use Rattle.std.proofs.Math.Path.{subst⁻¹}
use Rattle.std.proofs.Math.Nat.{mul-le-mul_left, zero-div, zero-mod}
use Rattle.std.proofs.lemmas.Bool.{cases_eq, cases_lt, ne_eqb}
use Rattle.std.proofs.lemmas.List.{take_all, drop_all, drop-drop}
use Rattle.std.specs.List.{AllByRecursion}
use Rattle.page_spec.specs.Pages.{Pages, IsInRange, with_page}
use Rattle.page_spec.specs.PagesLaws.{with_page-itself, with_page-other}
use Rattle.page_spec.specs.Counts.{times}
use Rattle.page_spec.specs.CountsLaws.{times-all}
use Rattle.page_spec.specs.Chains.{pages_for, IsChain}
use Rattle.page_spec.specs.Freelists.{Trunk}
use Rattle.page_spec.specs.FreelistsLaws.{IsInRange-wider}
use Rattle.page_spec.specs.WrittenChains.{overflow_page, first_of, HoldChain}
use Rattle.page_spec.specs.WrittenChainsLaws.{SameOn, SameOn-first, SameOn-rest, IsChain-written, chain_bytes-written}
use Rattle.tree_spec.specs.declared.fault.TreeFault.{TreeFault}
use Rattle.tree_spec.specs.Standing.{Sizes, Paged, Keeps}
use Rattle.tree_spec.specs.PagesLaws.{SamePage-whole, header_place-none}
use Rattle.format_spec.specs.Page.{header_place}
use Rattle.tree_spec.specs.Worlds.{IsFree}
use Rattle.tree_spec.specs.Changes.{Turns, Writes}
use Rattle.tree_spec.specs.ChangesLaws.{Turns-then, Turns-wide, Turns-same, Turns-within, Turns-keeps, free-within, slack-kept}
use Rattle.put_spec.specs.Steps.{Took}
use Rattle.put_spec.specs.SpelledLaws.{took-written}
use Rattle.tree_pages.specs.Takes.{IsShort}
use Rattle.tree_pages.specs.TakesLaws.{short-more, short-then}
use Rattle.tree_pages.specs.Writers.{HasOverflow}

-- the pages that bytes fill hold them all
enough : (u n : ℕ) → 0 < u → n ≤ (n / u + (if n % u == 0 then 0 else 1)) * u
enough u n some =
    elim (cases_eq (n % u) 0) [
      | inl whole ↦ omega (arith, ap (λ (b : Bool). (n / u + (if b then 0 else 1)) * u) (eq-eqb (n % u) 0 whole))
      | inr more ↦ omega (arith, ap (λ (b : Bool). (n / u + (if b then 0 else 1)) * u) (ne_eqb (n % u) 0 more))
    ]

pages_for-enough : (usable n : ℕ) → 480 ≤ usable → n ≤ pages_for usable n * (usable - 4)
pages_for-enough usable n least = enough (usable - 4) n (omega arith)

few : (b : Bool) (k q : ℕ) → k < q + (if b then 0 else 1) → k ≤ q
few true k q low = omega arith
few false k q low = omega arith

below : (u n k : ℕ) → 0 < u → k ≤ n / u → k * u ≤ n
below u n k some most = omega (arith, mul-le-mul_left u most)

-- a page that they fill begins within them
pub pages_for-within : (usable n k : ℕ) → 480 ≤ usable → k < pages_for usable n → k * (usable - 4) ≤ n
pages_for-within usable n k least low = below (usable - 4) n k (omega arith) (few (n % (usable - 4) == 0) k (n / (usable - 4)) low)

next-part : (left u : ℕ) → suc left * u ≡ left * u + u
next-part left u = omega arith

hold-same : (size usable : ℕ) (numbers bytes : List ℕ) (old new : Pages) → SameOn numbers old new → HoldChain old size usable numbers bytes → HoldChain new size usable numbers bytes
hold-same size usable [] bytes old new same holds = holds
hold-same size usable (number ∷ numbers) bytes old new same holds = (
  SameOn-first number numbers old new same ∙ holds.0,
  hold-same size usable numbers (drop (usable - 4) bytes) old new (SameOn-rest number numbers old new same) holds.1,
)

ranges-wider : (size count other : ℕ) (numbers : List ℕ) → count ≤ other → AllByRecursion (IsInRange size count) numbers → AllByRecursion (IsInRange size other) numbers
ranges-wider size count other [] more all = tt
ranges-wider size count other (number ∷ numbers) more all = (IsInRange-wider size count other number more all.0, ranges-wider size count other numbers more all.1)

-- The last pages of a chain are written, the first of which is `next`; so many are left in front of them.
pub record Writing (sizes : Sizes) (a : Paged) (trunks : List Trunk) (bytes : List ℕ) (next left : ℕ) (b : Paged) : Type 0 where
  pub rest : List Trunk
  pub chain : List ℕ
  pub turns : Turns sizes a [] trunks b chain rest
  pub holds : HoldChain b.pages sizes.size sizes.usable chain (drop (left * (sizes.usable - 4)) bytes)
  pub first : next ≡ first_of chain
  pub in_range : AllByRecursion (IsInRange sizes.size b.count) chain
  pub fit : AllByRecursion (λ n. n < 256 ^ 4) chain
  pub long : length chain + left ≡ pages_for sizes.usable (length bytes)

module _ (sizes : Sizes) (a : Paged) (trunks : List Trunk) (bytes : List ℕ) (least : 480 ≤ sizes.usable) where
  pub none-written : Writing sizes a trunks bytes 0 (pages_for sizes.usable (length bytes)) a
  none-written = record {
    rest = trunks;
    chain = [];
    turns = Turns-same sizes a [] [] trunks (λ n. refl);
    holds = drop_all (pages_for sizes.usable (length bytes) * (sizes.usable - 4)) bytes (pages_for-enough sizes.usable (length bytes) least);
    first = refl;
    in_range = tt;
    fit = tt;
    long = omega arith;
  }

  pub all-written : (next : ℕ) (b : Paged) → Writing sizes a trunks bytes next 0 b → HasOverflow sizes next bytes a trunks b
  all-written next b w =
      let all : drop (0 * (sizes.usable - 4)) bytes ≡ bytes = ap (λ (n : ℕ). drop n bytes) (let none : 0 * (sizes.usable - 4) ≡ 0 = omega arith in none) in
      let holds = subst (HoldChain b.pages sizes.size sizes.usable w.chain) all w.holds in
      record {
        chain = w.chain;
        rest = w.rest;
        turns = w.turns;
        is_chain = subst⁻¹ (λ (n : ℕ). IsChain b.pages sizes.size sizes.usable b.count n (length bytes) w.chain) w.first
            (IsChain-written b.pages sizes.size sizes.usable b.count w.chain bytes w.fit w.in_range (omega (arith, w.long)) holds);
        holds = chain_bytes-written b.pages sizes.size sizes.usable w.chain bytes holds;
      }

  -- where a page of the chain cannot be taken, fewer pages could be than the bytes fill
  pub short-written : {F : Type 0} (next left limit count : ℕ) (b : Paged) (fault : TreeFault F) → IsFree sizes a trunks → (w : Writing sizes a trunks bytes next left b) → 0 < left → b.count ≤ max limit a.count
      → IsShort sizes 1 limit b w.rest count fault → IsShort sizes (pages_for sizes.usable (length bytes)) limit a trunks count fault
  short-written next left limit count b fault free w some limited short =
      let kept = slack-kept sizes a b [] w.chain trunks w.rest limit (free-within sizes a trunks free) w.turns limited in
      short-more sizes limit count fault a trunks (length w.chain + 1) (pages_for sizes.usable (length bytes)) (omega (arith, w.long))
      (short-then sizes limit count fault a b trunks w.rest (length w.chain) 1 (omega (arith, kept)) short)

  -- one page more, in front of those that are written
  pub one-written : (number next left : ℕ) (part : List ℕ) (b d c : Paged) → IsFree sizes a trunks → Took sizes number b d → IsInRange sizes.size d.count number → number < 256 ^ 4
      → part ≡ take (sizes.usable - 4) (drop (left * (sizes.usable - 4)) bytes) → c.count ≡ d.count → c.pages ≡ with_page d.pages number (overflow_page sizes.size next part)
      → Writing sizes a trunks bytes next (suc left) b → Writing sizes a trunks bytes number left c
  one-written number next left part b d c free took in_range fits part_is counts pages w =
      let u = sizes.usable - 4 in
      let page = overflow_page sizes.size next part in
      let writes : Writes number d c = record {
        count = counts;
        others = λ n apart. ap (λ (p : Pages). p n) pages ∙ with_page-other d.pages number n page (λ e. apart (sym e));
        front = λ k low. absurd (no-front number k in_range.behind_first low);
      } in
      let t = took-written sizes number b d c took writes w.rest (w.turns.freelist free) in
      let within_a = free-within sizes a trunks free in
      let within_b = Turns-within sizes a b [] w.chain trunks w.rest within_a w.turns in
      let wide = Turns-wide sizes b c [] (number ∷ []) w.chain (number ∷ w.chain) w.rest t.0 (λ n. times n w.chain) (λ n. omega arith) (λ n. omega arith) t.1 in
      let keeps : Keeps w.chain b c = Turns-keeps sizes b c [] (number ∷ []) w.rest t.0 w.chain (λ n. omega (arith, within_b n)) t.1 in
      let same : SameOn w.chain b.pages c.pages = λ n some. SamePage-whole n (b.pages n) (c.pages n) (times-all (IsInRange sizes.size b.count) n w.chain w.in_range some).behind_first (keeps.same n some) in
      let behind : drop (suc left * u) bytes ≡ drop u (drop (left * u) bytes) = ap (λ (n : ℕ). drop n bytes) (next-part left u) ∙ sym (drop-drop u (left * u) bytes) in
      record {
        rest = t.0;
        chain = number ∷ w.chain;
        turns = Turns-then sizes a b c [] w.chain (number ∷ w.chain) trunks w.rest t.0 within_a w.turns wide;
        holds = (
          ap (λ (p : Pages). p number) pages ∙ with_page-itself d.pages number page
              ∙ ap (λ (n : ℕ). overflow_page sizes.size n part) w.first ∙ ap (overflow_page sizes.size (first_of w.chain)) part_is,
          subst (HoldChain c.pages sizes.size sizes.usable w.chain) behind (hold-same sizes.size sizes.usable w.chain (drop (suc left * u) bytes) b.pages c.pages same w.holds),
        );
        first = refl;
        in_range = (subst⁻¹ (λ (n : ℕ). IsInRange sizes.size n number) counts in_range, ranges-wider sizes.size b.count c.count w.chain keeps.grows w.in_range);
        fit = (fits, w.fit);
        long = omega (arith, w.long);
      }
    where
      no-front : (n k : ℕ) → 2 ≤ n → k < header_place n → ⊥
      no-front n k behind low = omega (arith, header_place-none n behind)

-- the same whatever freelist stood there
abbrev pub WritingAny : Sizes → List ℕ → ℕ → ℕ → Paged → Paged → Type 0
WritingAny sizes bytes next left a b = (trunks : List Trunk) → IsFree sizes a trunks → Writing sizes a trunks bytes next left b

-- a part of the bytes that fills a page, or is the last
pub part-filled : (bytes : List ℕ) (start end u : ℕ) → end ≤ length bytes → start ≤ end → (start + u ≤ length bytes → end ≡ start + u) → (length bytes ≤ start + u → end ≡ length bytes)
    → take (end - start) (drop start bytes) ≡ take u (drop start bytes)
part-filled bytes start end u within behind full last =
    elim (cases_lt (length bytes) (start + u)) [
      | inl less ↦
          let all : end ≡ length bytes = last (omega arith) in
          take_all (end - start) (drop start bytes) (omega (arith, length-drop start bytes)) ∙ sym (take_all u (drop start bytes) (omega (arith, length-drop start bytes)))
      | inr more ↦
          let whole : end ≡ start + u = full more in
          ap (λ (n : ℕ). take n (drop start bytes)) (omega arith)
    ]

pub no-pages : (usable : ℕ) → pages_for usable 0 ≡ 0
no-pages usable = ap₂ (λ (q r : ℕ). q + (if r == 0 then 0 else 1)) (zero-div (usable - 4)) (zero-mod (usable - 4))
