-- What pages that were written as a chain hold, and that a chain stays where its pages do: crates above cite these facts in their proofs.
use Rattle.std.proofs.Common.{◌≡◌, ℕ, zero, suc, ◌+◌, ◌-◌, ◌^◌, ◌<◌, ◌≤◌, List, [], ◌∷◌, ◌++◌, length, take, drop, replicate, refl, sym, ap, ap₂, ◌∙◌, subst, inl, inr, arith, length-append, length-drop, zero-add, append_assoc}
use Rattle.std.proofs.Math.Path.{subst⁻¹}
use Rattle.std.specs.List.{flat_map, AllByRecursion}
use Rattle.std.proofs.lemmas.Bool.{cases_lt}
use Rattle.std.proofs.lemmas.List.{take_at, take_all, drop_at, drop_all, length-take, length-replicate, take-append-le, take-take, take-append-drop}
use Rattle.byteorder.specs.Numbers.{length-bytes_high_first, big_number-reads_back}
use Rattle.byteorder.specs.Endian.{big_bytes}
use Rattle.page_spec.specs.Pages.{Pages, IsInRange, next_page}
use Rattle.page_spec.specs.Chains.{AreLinked, named_behind, pages_for, IsChain, content_of, chain_bytes}
use Rattle.page_spec.specs.Counts.{times}
use Rattle.page_spec.specs.CountsLaws.{times-cons, times-itself}
use Rattle.page_spec.specs.WrittenChains.{overflow_page, first_of, HoldChain}

-- the number that an overflow page names
pub next-overflow_page : (size next : ℕ) (content : List ℕ) → next < 256 ^ 4 → next_page (overflow_page size next content) ≡ next
next-overflow_page size next content fits = big_number-reads_back 4 next (content ++ replicate (size - (4 + length content)) 0) fits

-- what it holds behind its link
pub content-overflow_page : (size usable next : ℕ) (content : List ℕ) →
    content_of usable (overflow_page size next content) ≡ take (usable - 4) (content ++ replicate (size - (4 + length content)) 0)
content-overflow_page size usable next content =
    ap (take (usable - 4)) (drop_at (big_bytes 4 next) (content ++ replicate (size - (4 + length content)) 0) 4 (length-bytes_high_first 4 next))

pub length-overflow_page : (size next : ℕ) (content : List ℕ) → 4 + length content ≤ size → length (overflow_page size next content) ≡ size
length-overflow_page size next content room =
    let zeros : List ℕ = replicate (size - (4 + length content)) 0 in
    omega (arith, length-append (big_bytes 4 next) (content ++ zeros), length-append content zeros, length-bytes_high_first 4 next, length-replicate {A = ℕ} (size - (4 + length content)) 0)

-- a front that is taken whole
take-past : (a r : List ℕ) (k : ℕ) → take (length a + k) (a ++ r) ≡ a ++ take k r
take-past [] r k = ap (λ (n : ℕ). take n r) (zero-add k)
take-past (x ∷ a) r k =
    let more : suc (length a) + k ≡ suc (length a + k) = omega arith in
    ap (λ (n : ℕ). take n (x ∷ (a ++ r))) more ∙ ap (λ (xs : List ℕ). x ∷ xs) (take-past a r k)

module _ (pages : Pages) (size usable : ℕ) where
  -- the bytes that the pages hold, as many as were written
  pub chain_bytes-written : (numbers bytes : List ℕ) → HoldChain pages size usable numbers bytes → chain_bytes pages usable numbers (length bytes) ≡ bytes
  chain_bytes-written [] bytes hold = ap (λ (b : List ℕ). take (length b) []) hold ∙ sym hold
  chain_bytes-written (number ∷ numbers) bytes hold =
      let room = usable - 4 in
      let part = take room bytes in
      let rest = flat_map (λ n. content_of usable (pages n)) numbers in
      let zeros : List ℕ = replicate (size - (4 + length part)) 0 in
      let content : content_of usable (pages number) ≡ take room (part ++ zeros) = ap (content_of usable) hold.0 ∙ content-overflow_page size usable (first_of numbers) part in
      let behind : take (length (drop room bytes)) rest ≡ drop room bytes = chain_bytes-written numbers (drop room bytes) hold.1 in
      let here = ap (λ (c : List ℕ). take (length bytes) (c ++ rest)) content in
      elim (cases_lt (length bytes) room) [
        | inl less ↦
            let whole : part ≡ bytes = take_all room bytes (omega arith) in
            let inside : length bytes ≤ length (take room (part ++ zeros)) = omega (arith, length-take room (part ++ zeros), length-append part zeros, ap length whole) in
            here
            ∙ take-append-le (length bytes) (take room (part ++ zeros)) rest inside
            ∙ take-take (length bytes) room (part ++ zeros) (omega arith)
            ∙ ap (λ (p : List ℕ). take (length bytes) (p ++ zeros)) whole
            ∙ take_at bytes zeros (length bytes) refl
        | inr full ↦
            let long : length part ≡ room = omega (arith, length-take room bytes) in
            let front : take room (part ++ zeros) ≡ part = take_at part zeros room long in
            let count : length bytes ≡ length part + length (drop room bytes) = omega (arith, length-drop room bytes) in
            here
            ∙ ap₂ (λ (n : ℕ) (c : List ℕ). take n (c ++ rest)) count front
            ∙ take-past part rest (length (drop room bytes))
            ∙ ap (λ (r : List ℕ). part ++ r) behind
            ∙ take-append-drop room bytes
      ]

  first-fits : (numbers : List ℕ) → AllByRecursion (λ n. n < 256 ^ 4) numbers → first_of numbers < 256 ^ 4
  first-fits [] fit = omega arith
  first-fits (number ∷ numbers) fit = fit.0

  -- what the first of them names
  named : (number : ℕ) (numbers bytes : List ℕ) → AllByRecursion (λ n. n < 256 ^ 4) numbers → HoldChain pages size usable (number ∷ numbers) bytes
      → next_page (pages number) ≡ first_of numbers
  named number numbers bytes fit hold = ap next_page hold.0 ∙ next-overflow_page size (first_of numbers) (take (usable - 4) bytes) (first-fits numbers fit)

  linked-written : (count : ℕ) (numbers bytes : List ℕ) → AllByRecursion (λ n. n < 256 ^ 4) numbers → AllByRecursion (IsInRange size count) numbers
      → HoldChain pages size usable numbers bytes → AreLinked pages size count (first_of numbers) numbers
  linked-written count [] bytes fit all hold = tt
  linked-written count (number ∷ numbers) bytes fit all hold = (
    refl,
    all.0,
    subst⁻¹ (λ (n : ℕ). AreLinked pages size count n numbers) (named number numbers bytes fit.1 hold) (linked-written count numbers (drop (usable - 4) bytes) fit.1 all.1 hold.1),
  )

  ends-written : (numbers bytes : List ℕ) → AllByRecursion (λ n. n < 256 ^ 4) numbers → HoldChain pages size usable numbers bytes
      → named_behind pages (first_of numbers) numbers ≡ 0
  ends-written [] bytes fit hold = refl
  ends-written (number ∷ numbers) bytes fit hold =
      ap (λ (n : ℕ). named_behind pages n numbers) (named number numbers bytes fit.1 hold) ∙ ends-written numbers (drop (usable - 4) bytes) fit.1 hold.1

  -- pages that a link may name, and that hold the bytes, are a chain
  pub IsChain-written : (count : ℕ) (numbers bytes : List ℕ) → AllByRecursion (λ n. n < 256 ^ 4) numbers → AllByRecursion (IsInRange size count) numbers
      → length numbers ≡ pages_for usable (length bytes) → HoldChain pages size usable numbers bytes
      → IsChain pages size usable count (first_of numbers) (length bytes) numbers
  IsChain-written count numbers bytes fit all many hold =
      record { linked = linked-written count numbers bytes fit all hold; ends = ends-written numbers bytes fit hold; many = many }

-- the pages of a list are the same in two maps
abbrev pub SameOn : List ℕ → Pages → Pages → Type 0
SameOn numbers old new = (n : ℕ) → 0 < times n numbers → new n ≡ old n

pub SameOn-first : (number : ℕ) (numbers : List ℕ) (old new : Pages) → SameOn (number ∷ numbers) old new → new number ≡ old number
SameOn-first number numbers old new same = same number (omega (arith, times-cons number number numbers, times-itself number))

pub SameOn-rest : (number : ℕ) (numbers : List ℕ) (old new : Pages) → SameOn (number ∷ numbers) old new → SameOn numbers old new
SameOn-rest number numbers old new same n some = same n (omega (arith, times-cons n number numbers))

module _ (old new : Pages) where
  linked-same : (size count first : ℕ) (numbers : List ℕ) → SameOn numbers old new → AreLinked old size count first numbers → AreLinked new size count first numbers
  linked-same size count first [] same linked = tt
  linked-same size count first (number ∷ numbers) same linked = (
    linked.0,
    linked.1,
    subst⁻¹ (λ (n : ℕ). AreLinked new size count n numbers) (ap next_page (SameOn-first number numbers old new same))
        (linked-same size count (next_page (old number)) numbers (SameOn-rest number numbers old new same) linked.2),
  )

  behind-same : (first : ℕ) (numbers : List ℕ) → SameOn numbers old new → named_behind new first numbers ≡ named_behind old first numbers
  behind-same first [] same = refl
  behind-same first (number ∷ numbers) same =
      ap (λ (n : ℕ). named_behind new n numbers) (ap next_page (SameOn-first number numbers old new same))
      ∙ behind-same (next_page (old number)) numbers (SameOn-rest number numbers old new same)

  -- a chain whose pages stay is a chain, with the same bytes
  pub IsChain-same : (size usable count first bytes : ℕ) (numbers : List ℕ) → SameOn numbers old new
      → IsChain old size usable count first bytes numbers → IsChain new size usable count first bytes numbers
  IsChain-same size usable count first bytes numbers same is = record {
    linked = linked-same size count first numbers same is.linked;
    ends = behind-same first numbers same ∙ is.ends;
    many = is.many;
  }

  contents-same : (usable : ℕ) (numbers : List ℕ) → SameOn numbers old new → flat_map (λ n. content_of usable (new n)) numbers ≡ flat_map (λ n. content_of usable (old n)) numbers
  contents-same usable [] same = refl
  contents-same usable (number ∷ numbers) same =
      ap₂ (λ (a b : List ℕ). a ++ b) (ap (content_of usable) (SameOn-first number numbers old new same)) (contents-same usable numbers (SameOn-rest number numbers old new same))

  pub chain_bytes-same : (usable : ℕ) (numbers : List ℕ) (bytes : ℕ) → SameOn numbers old new → chain_bytes new usable numbers bytes ≡ chain_bytes old usable numbers bytes
  chain_bytes-same usable numbers bytes same = ap (take bytes) (contents-same usable numbers same)
