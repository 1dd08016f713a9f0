-- What a freelist keeps where its pages stay, and which pages are free: crates above cite these facts in their proofs.
use Rattle.std.proofs.Common.{◌≡◌, ◌≢◌, ℕ, zero, suc, ◌+◌, ◌<◌, ◌≤◌, ◌⊎◌, List, [], ◌∷◌, ◌++◌, length, get_or, refl, sym, ap, ◌∙◌, subst, inl, inr, arith, length-append}
use Rattle.std.proofs.Math.Path.{subst⁻¹}
use Rattle.std.specs.List.{All, AllByRecursion}
use Rattle.std.proofs.lemmas.Bool.{cases_lt, cases_eq}
use Rattle.std.proofs.lemmas.List.Elements.{All-weaker, recursion_from_All}
use Rattle.format_spec.specs.Header.{freelist_trunk, freelist_pages}
use Rattle.page_spec.specs.Pages.{Pages, IsInRange, next_page}
use Rattle.page_spec.specs.Counts.{times}
use Rattle.page_spec.specs.CountsLaws.{times-append, times-all, distinct-once, few-once}
use Rattle.page_spec.specs.Freelists.{Trunk, IsTrunk, AreTrunks, IsFreelist, free_pages, leaf_count, leaf_at}
use Rattle.page_spec.specs.WrittenChainsLaws.{SameOn, SameOn-first}

-- how often a page is free, counted by trunks
pub times-free_pages : (n : ℕ) (trunk : Trunk) (trunks : List Trunk) →
    times n (free_pages (trunk ∷ trunks)) ≡ times n (trunk.page ∷ []) + times n trunk.leaves + times n (free_pages trunks)
times-free_pages n trunk trunks =
    omega (arith, times-append n trunk.leaves (free_pages trunks))

-- a number stays in range where the count does not fall
pub IsInRange-wider : (size count other n : ℕ) → count ≤ other → IsInRange size count n → IsInRange size other n
IsInRange-wider size count other n more is = record { behind_first = is.behind_first; within = omega (arith, is.within); not_lock_byte = is.not_lock_byte }

module _ (size usable : ℕ) where
  -- a trunk whose page stays is a trunk, also where the count rises
  pub IsTrunk-same : (old new : Pages) (count other : ℕ) (trunk : Trunk) → new trunk.page ≡ old trunk.page → count ≤ other
      → IsTrunk old size usable count trunk → IsTrunk new size usable other trunk
  IsTrunk-same old new count other trunk same more is = record {
    in_range = IsInRange-wider size count other trunk.page more is.in_range;
    counts = ap leaf_count same ∙ is.counts;
    few = is.few;
    names = λ k low. ap (λ (page : List ℕ). leaf_at page k) same ∙ is.names k low;
    leaves_in_range = All-weaker (IsInRange size count) (IsInRange size other) (λ n. IsInRange-wider size count other n more) trunk.leaves is.leaves_in_range;
  }

  pub AreTrunks-same : (old new : Pages) (count other first : ℕ) (trunks : List Trunk) → SameOn (free_pages trunks) old new → count ≤ other
      → AreTrunks old size usable count first trunks → AreTrunks new size usable other first trunks
  AreTrunks-same old new count other first [] same more are = are
  AreTrunks-same old new count other first (trunk ∷ trunks) same more are =
      let here : new trunk.page ≡ old trunk.page = SameOn-first trunk.page (trunk.leaves ++ free_pages trunks) old new same in
      let rest : SameOn (free_pages trunks) old new = λ n some. same n (omega (arith, times-free_pages n trunk trunks)) in (
        are.0,
        IsTrunk-same old new count other trunk here more are.1,
        subst⁻¹ (λ (n : ℕ). AreTrunks new size usable other n trunks) (ap next_page here) (AreTrunks-same old new count other (next_page (old trunk.page)) trunks rest more are.2),
      )

  -- a freelist stays where its pages and its fields in page 1 do
  pub IsFreelist-same : (old new : Pages) (count other : ℕ) (trunks : List Trunk) → SameOn (free_pages trunks) old new → count ≤ other
      → freelist_trunk (new 1) ≡ freelist_trunk (old 1) → freelist_pages (new 1) ≡ freelist_pages (old 1)
      → IsFreelist old size usable count trunks → IsFreelist new size usable other trunks
  IsFreelist-same old new count other trunks same more first many is = record {
    named = subst⁻¹ (λ (n : ℕ). AreTrunks new size usable other n trunks) first (AreTrunks-same old new count other (freelist_trunk (old 1)) trunks same more is.named);
    many = many ∙ is.many;
    differ = is.differ;
  }

  -- each free page is in range
  pub free-in_range : (pages : Pages) (count first : ℕ) (trunks : List Trunk) → AreTrunks pages size usable count first trunks
      → (n : ℕ) → 0 < times n (free_pages trunks) → IsInRange size count n
  free-in_range pages count first [] are n some = absurd (omega arith)
  free-in_range pages count first (trunk ∷ trunks) are n some =
      elim (cases_lt 0 (times n (trunk.page ∷ []))) [
        | inl page ↦ times-all (IsInRange size count) n (trunk.page ∷ []) (are.1.in_range, tt) page
        | inr not_page ↦ elim (cases_lt 0 (times n trunk.leaves)) [
          | inl leaf ↦ times-all (IsInRange size count) n trunk.leaves (recursion_from_All (IsInRange size count) trunk.leaves are.1.leaves_in_range) leaf
          | inr not_leaf ↦ free-in_range pages count (next_page (pages trunk.page)) trunks are.2 n (omega (arith, times-free_pages n trunk trunks))
        ]
      ]

  -- page 1 is never free
  pub first-not_free : (pages : Pages) (count first : ℕ) (trunks : List Trunk) → AreTrunks pages size usable count first trunks → times 1 (free_pages trunks) ≡ 0
  first-not_free pages count first trunks are =
      elim (cases_lt 0 (times 1 (free_pages trunks))) [
        | inl some ↦ absurd (let in_range = free-in_range pages count first trunks are 1 some in omega (arith, in_range.behind_first))
        | inr none ↦ omega arith
      ]

-- there are fewer free pages than pages
pub free_pages-few : (pages : Pages) (size usable count : ℕ) (trunks : List Trunk) → IsFreelist pages size usable count trunks → length (free_pages trunks) ≤ count
free_pages-few pages size usable count trunks is =
    few-once (free_pages trunks) count (distinct-once (free_pages trunks) is.differ)
    (λ n some. let in_range = free-in_range size usable pages count (freelist_trunk (pages 1)) trunks is.named n some in (omega (arith, in_range.behind_first), in_range.within))
