-- A number names one chain, or is broken in one place: crates above cite these facts in their proofs.
use Rattle.std.proofs.Common.{◌≡◌, ◌≢◌, ℕ, zero, suc, ◌+◌, ◌<◌, ◌≤◌, ◌⊎◌, List, [], ◌∷◌, ◌++◌, length, take, refl, sym, ap, ap₂, ◌∙◌, subst, inl, inr, arith, length-append}
use Rattle.std.proofs.Math.Path.{subst⁻¹}
use Rattle.std.proofs.lemmas.Bool.{cases_lt}
use Rattle.std.proofs.lemmas.List.{append-nil, nil_from_length}
use Rattle.page_spec.specs.Pages.{Pages, IsInRange, next_page}
use Rattle.page_spec.specs.Chains.{AreLinked, named_behind, last_linked, pages_for, IsChain, IsBroken}

module _ (pages : Pages) (size count : ℕ) where
  -- of two lists of linked pages the longer goes on where the shorter ends
  pub record GoesOn (first : ℕ) (a b : List ℕ) : Type 0 where
    pub rest : List ℕ
    pub whole : b ≡ a ++ rest
    pub linked : AreLinked pages size count (named_behind pages first a) rest

  goes_on : (first : ℕ) (a b : List ℕ) → AreLinked pages size count first a → AreLinked pages size count first b → length a ≤ length b → GoesOn first a b
  goes_on first [] b one two long = record { rest = b; whole = refl; linked = two }
  goes_on first (x ∷ a) [] one two long = absurd (omega arith)
  goes_on first (x ∷ a) (y ∷ b) one two long =
      let same : y ≡ x = sym two.0 ∙ one.0 in
      let there = subst (λ (n : ℕ). AreLinked pages size count (next_page (pages n)) b) same two.2 in
      let on = goes_on (next_page (pages x)) a b one.2 there (omega arith) in
      record { rest = on.rest; whole = ap₂ (λ (n : ℕ) (ns : List ℕ). n ∷ ns) same on.whole; linked = on.linked }

  -- lists of one length are one list
  pub same_linked : (first : ℕ) (a b : List ℕ) → AreLinked pages size count first a → AreLinked pages size count first b → length a ≡ length b → a ≡ b
  same_linked first a b one two long =
      let on = goes_on first a b one two (omega arith) in
      let none : on.rest ≡ [] = nil_from_length on.rest (omega (arith, ap length on.whole, length-append a on.rest)) in
      sym (on.whole ∙ ap (λ (r : List ℕ). a ++ r) none ∙ append-nil a)

  -- where a longer list goes on, the number is in range
  pub named-in_range : (first : ℕ) (a b : List ℕ) → AreLinked pages size count first a → AreLinked pages size count first b → length a < length b → IsInRange size count (named_behind pages first a)
  named-in_range first a b one two less =
      let on = goes_on first a b one two (omega arith) in
      begins (named_behind pages first a) on.rest on.linked (omega (arith, ap length on.whole, length-append a on.rest))
    where
      begins : (number : ℕ) (rest : List ℕ) → AreLinked pages size count number rest → 0 < length rest → IsInRange size count number
      begins number [] linked some = absurd (omega arith)
      begins number (x ∷ rest) linked some = subst⁻¹ (IsInRange size count) linked.0 linked.1

  module _ (usable first bytes : ℕ) where
    pub same_chain : (a b : List ℕ) → IsChain pages size usable count first bytes a → IsChain pages size usable count first bytes b → a ≡ b
    same_chain a b one two = same_linked first a b one.linked two.linked (one.many ∙ sym two.many)

    pub chain-not_broken : (a : List ℕ) (page : ℕ) → IsChain pages size usable count first bytes a → ¬ IsBroken pages size usable count first bytes page
    chain-not_broken a page one broken = wrong broken.wrong
      where
        wrong : ((length broken.numbers < pages_for usable bytes) × ¬ IsInRange size count (named_behind pages first broken.numbers))
            ⊎ ((length broken.numbers ≡ pages_for usable bytes) × (named_behind pages first broken.numbers ≢ 0)) → ⊥
        wrong (inl w) = w.1 (named-in_range first broken.numbers a broken.linked one.linked (omega (arith, w.0, one.many)))
        wrong (inr w) =
            let same : broken.numbers ≡ a = same_linked first broken.numbers a broken.linked one.linked (w.0 ∙ sym one.many) in
            w.1 (ap (named_behind pages first) same ∙ one.ends)

    -- a list that ends before a longer one does not break there
    not_before : {page other : ℕ} (a : IsBroken pages size usable count first bytes page) (b : IsBroken pages size usable count first bytes other) → length a.numbers < length b.numbers → ⊥
    not_before a b less = wrong a.wrong b.wrong
      where
        wrong : ((length a.numbers < pages_for usable bytes) × ¬ IsInRange size count (named_behind pages first a.numbers))
            ⊎ ((length a.numbers ≡ pages_for usable bytes) × (named_behind pages first a.numbers ≢ 0))
            → ((length b.numbers < pages_for usable bytes) × ¬ IsInRange size count (named_behind pages first b.numbers))
            ⊎ ((length b.numbers ≡ pages_for usable bytes) × (named_behind pages first b.numbers ≢ 0)) → ⊥
        wrong (inl w) other = w.1 (named-in_range first a.numbers b.numbers a.linked b.linked less)
        wrong (inr w) (inl v) = omega (arith, w.0, v.0, less)
        wrong (inr w) (inr v) = omega (arith, w.0, v.0, less)

    pub same_broken : (page other : ℕ) → IsBroken pages size usable count first bytes page → IsBroken pages size usable count first bytes other → page ≡ other
    same_broken page other a b =
        elim (cases_lt (length a.numbers) (length b.numbers)) [
          | inl less ↦ absurd (not_before a b less)
          | inr not_less ↦ elim (cases_lt (length b.numbers) (length a.numbers)) [
            | inl less ↦ absurd (not_before b a less)
            | inr also ↦
                let same : a.numbers ≡ b.numbers = same_linked first a.numbers b.numbers a.linked b.linked (omega arith) in
                a.page_is ∙ ap (last_linked first) same ∙ sym b.page_is
          ]
        ]

  -- one page more
  pub linked_more : (first : ℕ) (numbers : List ℕ) (number : ℕ) → AreLinked pages size count first numbers → named_behind pages first numbers ≡ number → IsInRange size count number
      → AreLinked pages size count first (numbers ++ number ∷ [])
  linked_more first [] number linked named in_range = (named, in_range, tt)
  linked_more first (x ∷ numbers) number linked named in_range = (linked.0, linked.1, linked_more (next_page (pages x)) numbers number linked.2 named in_range)

pub named-more : (pages : Pages) (first : ℕ) (numbers : List ℕ) (number : ℕ) → named_behind pages first (numbers ++ number ∷ []) ≡ next_page (pages number)
named-more pages first [] number = refl
named-more pages first (x ∷ numbers) number = named-more pages (next_page (pages x)) numbers number

pub last-more : (first : ℕ) (numbers : List ℕ) (number : ℕ) → last_linked first (numbers ++ number ∷ []) ≡ number
last-more first [] number = refl
last-more first (x ∷ numbers) number = last-more x numbers number
