-- Which pages are due, and what one page more makes of those that may still be taken: crates above cite these facts in their proofs.
use Rattle.std.proofs.Common.{◌≡◌, ◌≢◌, ℕ, zero, suc, ◌+◌, ◌-◌, ◌<◌, ◌≤◌, ◌⊎◌, List, [], ◌∷◌, length, refl, sym, ap, ◌∙◌, inl, inr, arith}
use Rattle.std.proofs.lemmas.Bool.{cases_eq, cases_lt}
use Rattle.std.proofs.lemmas.Bool.Decides.{nat_tests}
use Rattle.page_spec.specs.Pages.{IsInRange, lock_byte_page}
use Rattle.page_spec.specs.PagesLaws.{page_past-cases, page_past-in_range}
use Rattle.page_spec.specs.Counts.{times}
use Rattle.page_spec.specs.CountsLaws.{times-itself, times-other, up_to}
use Rattle.page_spec.specs.FreePages.{due, due_pages, page_past, slack}

module _ (size : ℕ) where
  pub due-most : (count n : ℕ) → due size count n ≤ 1
  unfolding due
  due-most count n = grind (arith, nat_tests)

  pub due-grows : (count later n : ℕ) → count ≤ later → due size count n ≤ due size later n
  unfolding due
  due-grows count later n grows = grind (arith, nat_tests)

  pub due-past : (count n : ℕ) → count < n → due size count n ≡ 0
  unfolding due
  due-past count n past = grind (arith, nat_tests)

  pub due-number : (count n : ℕ) → IsInRange size count n → due size count n ≡ 1
  unfolding due
  due-number count n is = grind (arith, nat_tests, is.behind_first, is.within, is.not_lock_byte)

  pub due-first : (count n : ℕ) → 0 < due size count n → 1 ≤ n
  unfolding due
  due-first count n some = grind (arith, nat_tests)

  pub due-within : (count n : ℕ) → 0 < due size count n → n ≤ count
  unfolding due
  due-within count n some = grind (arith, nat_tests)

  pub due-other : (count n : ℕ) → 0 < due size count n → n ≢ lock_byte_page size
  unfolding due
  due-other count n some is = grind (arith, nat_tests)

  -- the due pages up to one of them
  counted-to : (count last : ℕ) → last ≤ count → up_to (due size count) last ≡ due_pages size last
  unfolding due due_pages
  counted-to count zero within = grind (arith, nat_tests)
  counted-to count (suc last) within =
      let rest = counted-to count last (omega arith) in
      grind (arith, nat_tests, rest)

  -- counted page by page
  pub due-counted : (count last : ℕ) → count ≤ last → up_to (due size count) last ≡ due_pages size count
  due-counted count zero within = let none : count ≡ 0 = omega arith in ap (λ (c : ℕ). up_to (due size c) 0) none ∙ counted-to 0 0 (omega arith) ∙ ap (due_pages size) (sym none)
  due-counted count (suc last) within =
      elim (cases_lt last count) [
        | inl above ↦
            let all : count ≡ suc last = omega arith in
            ap (λ (c : ℕ). up_to (due size c) (suc last)) all ∙ counted-to (suc last) (suc last) (omega arith) ∙ ap (due_pages size) (sym all)
        | inr below ↦ omega (arith, due-past count (suc last) (omega arith), due-counted count last below)
      ]

  pub due_pages-grows : (count later : ℕ) → count ≤ later → due_pages size count ≤ due_pages size later
  unfolding due_pages
  due_pages-grows count later grows = grind (arith, nat_tests)

  pub due_pages-most : (count : ℕ) → due_pages size count ≤ count
  unfolding due_pages
  due_pages-most count = grind (arith, nat_tests)

  -- how often a page is due changes only between two counts
  pub due-same : (count later n : ℕ) → (n ≤ count → n ≤ later) → (n ≤ later → n ≤ count) → due size later n ≡ due size count n
  unfolding due
  due-same count later n up down = grind (arith, nat_tests, up, down)

  pub due-lock_byte : (count n : ℕ) → n ≡ lock_byte_page size → due size count n ≡ 0
  unfolding due
  due-lock_byte count n lock = grind (arith, nat_tests)

  -- the next page past the end is due once it is the last, and no other with it
  pub due-appended : (count n : ℕ) → 1 ≤ count → due size (page_past size count) n ≡ times n (page_past size count ∷ []) + due size count n
  due-appended count n some =
      let next = page_past size count in
      let in_range = page_past-in_range size count some in
      elim (page_past-cases size count) [
        | inl two ↦ elim (cases_eq n next) [
          | inl same ↦ at_last same (omega arith)
          | inr apart ↦ elim (cases_eq n (lock_byte_page size)) [
            | inl lock ↦ omega (arith, times-other n next (λ e. apart (sym e)), due-lock_byte next n lock, due-lock_byte count n lock)
            | inr other ↦ omega (arith, times-other n next (λ e. apart (sym e)), due-same count next n (λ h. omega arith) (λ h. omega arith))
          ]
        ]
        | inr one ↦ elim (cases_eq n next) [
          | inl same ↦ at_last same (omega arith)
          | inr apart ↦ omega (arith, times-other n next (λ e. apart (sym e)), due-same count next n (λ h. omega arith) (λ h. omega arith))
        ]
      ]
    where
      at_last : n ≡ page_past size count → count < page_past size count → due size (page_past size count) n ≡ times n (page_past size count ∷ []) + due size count n
      at_last same past =
          let one : times n (page_past size count ∷ []) ≡ 1 = ap (λ (x : ℕ). times n (x ∷ [])) (sym same) ∙ times-itself n in
          let here : due size (page_past size count) n ≡ 1 = ap (due size (page_past size count)) same ∙ due-number (page_past size count) (page_past size count) (page_past-in_range size count some) in
          omega (arith, one, here, due-past count n (omega arith))

  -- it is one page more
  pub due_pages-appended : (count : ℕ) → due_pages size (page_past size count) ≡ due_pages size count + 1
  unfolding due_pages
  due_pages-appended count =
      elim (page_past-cases size count) [
        | inl two ↦ grind (arith, nat_tests, two.0, two.1)
        | inr one ↦ grind (arith, nat_tests, one.0, one.1)
      ]

  -- a page past the end that is taken is one less that may be
  pub slack-appended : (count limit : ℕ) → page_past size count ≤ limit → slack size (page_past size count) limit [] + 1 ≡ slack size count limit []
  slack-appended count limit within = omega (arith, due_pages-appended count, due_pages-grows (page_past size count) limit within)

  -- a limit that the next page past the end passes has no page more
  due_pages-full : (count limit : ℕ) → limit < page_past size count → due_pages size limit ≤ due_pages size count
  unfolding due_pages
  due_pages-full count limit past =
      elim (page_past-cases size count) [
        | inl two ↦ grind (arith, nat_tests, two.0, two.1, past)
        | inr one ↦ grind (arith, nat_tests, one.1, past)
      ]

  -- so none may be taken where no page is free
  pub slack-none : (count limit : ℕ) → limit < page_past size count → slack size count limit [] ≡ 0
  slack-none count limit past = omega (arith, due_pages-full count limit past)

  -- a free page more
  pub slack-more : (count limit : ℕ) (free more : List ℕ) → length more ≡ length free + 1 → slack size count limit more ≡ slack size count limit free + 1
  slack-more count limit free more long = omega (arith, long)
