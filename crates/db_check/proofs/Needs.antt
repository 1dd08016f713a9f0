-- The pages that have to stand somewhere, one by one.
use Rattle.std.proofs.Common.{◌≡◌, ℕ, suc, ◌+◌, ◌-◌, ◌<◌, ◌==◌, ◌&&◌, not, Bool, true, false, List, [], ◌∷◌, ◌++◌, length, map, filter, cond, slice_index_or, refl, sym, ap, ap₂, ◌∙◌, inl, inr, arith}
use Rattle.std.proofs.Math.Path.{subst⁻¹}
use Rattle.std.specs.List.{list_any, range_with_len}
use Rattle.std.proofs.lemmas.List.{append-nil, map-append}
use Rattle.std.proofs.lemmas.List.Elements.{filter-append}
use Rattle.page_spec.specs.Pages.{lock_byte_page}
use Rattle.tree_spec.specs.Standing.{Sizes, Paged}
use Rattle.database_spec.specs.declared.fault.FileFault.TheVariants as file
use Rattle.database_spec.specs.ItemsLaws.{decide}
use Rattle.database_spec.specs.FileFindings.{Found, Needs, pages_needed}
use Rattle.database_spec.specs.FileFaults.{is_found, FirstWrong}
use Rattle.database_laws.specs.RightFindings.{AreRight}
use Rattle.database_laws.specs.RightFindingsLaws.{right-join, wrong-back, found-append}
use Rattle.database_laws.specs.RightFilesLaws.{needs-numbers}
use Rattle.db_check.specs.Passes.{IsMarked}
use Rattle.db_check.proofs.Parts.{or-none, range-split}

-- what has to stand somewhere is no page that is found
found-needs : (n : ℕ) (before : List Found) (numbers : List ℕ) → is_found n (before ++ map Needs numbers) ≡ is_found n before
found-needs n before numbers =
    found-append n before (map Needs numbers) ∙ or-none (is_found n before) (is_found n (map Needs numbers)) (ap (list_any (λ (other : ℕ). other == n)) (needs-numbers numbers))

pub marked-needs : (flags : List Bool) (before : List Found) (numbers : List ℕ) → IsMarked flags before → IsMarked flags (before ++ map Needs numbers)
marked-needs flags before numbers marked n low = marked n low ∙ sym (found-needs n before numbers)

and-right : (t u : Bool) → t ≡ true → (t && not u) ≡ false → u ≡ true
and-right true true e none = refl
and-right true false e none = absurd (let h : ◌≡◌ {A = Bool} true false = none in let no : ⊥ = cc in no)
and-right false u e none = absurd (let h : ◌≡◌ {A = Bool} false true = e in let no : ⊥ = cc in no)

both-true : (t u : Bool) → (t && not u) ≡ true → (t ≡ true) × (u ≡ false)
both-true true true e = absurd (let h : ◌≡◌ {A = Bool} false true = e in let no : ⊥ = cc in no)
both-true true false e = (refl, refl)
both-true false u e = absurd (let h : ◌≡◌ {A = Bool} false true = e in let no : ⊥ = cc in no)

module _ (sizes : Sizes) (base : Paged) where
  abbrev pub stands : ℕ → Bool
  stands number = not (number == lock_byte_page sizes.size)

  -- the pages that are needed up to one of them
  abbrev pub needed_to : ℕ → List ℕ
  needed_to last = filter stands (range_with_len 1 last)

  needed-more : (at : ℕ) → needed_to (at + 1) ≡ needed_to at ++ filter stands ((at + 1) ∷ [])
  needed-more at =
      let next : 1 + at ≡ at + 1 = omega arith in
      ap (filter stands) (range-split 1 at 1 (at + 1) refl ∙ ap (λ (n : ℕ). range_with_len 1 at ++ (n ∷ [])) next) ∙ filter-append stands (range_with_len 1 at) ((at + 1) ∷ [])

  one-kept : (at : ℕ) → stands (at + 1) ≡ true → filter stands ((at + 1) ∷ []) ≡ (at + 1) ∷ []
  one-kept at e = ap (λ (t : Bool). cond t ((at + 1) ∷ []) []) e

  one-dropped : (at : ℕ) → stands (at + 1) ≡ false → filter stands ((at + 1) ∷ []) ≡ []
  one-dropped at e = ap (λ (t : Bool). cond t ((at + 1) ∷ []) []) e

  -- one page more is not lost
  pub needed-right : (at : ℕ) (flags : List Bool) (before : List Found) → IsMarked flags before → at + 1 < length flags → (stands (at + 1) && not (slice_index_or flags (at + 1) false)) ≡ false
      → AreRight before (map Needs (needed_to at)) → AreRight before (map Needs (needed_to (at + 1)))
  needed-right at flags before marked low none right =
      elim (decide (stands (at + 1))) [
        | inl keep ↦
            let flag = and-right (stands (at + 1)) (slice_index_or flags (at + 1) false) keep none in
            let is = sym (marked-needs flags before (needed_to at) marked (at + 1) low) ∙ flag in
            let list : needed_to (at + 1) ≡ needed_to at ++ ((at + 1) ∷ []) = needed-more at ∙ ap (λ (ns : List ℕ). needed_to at ++ ns) (one-kept at keep) in
            subst⁻¹ (λ (ns : List ℕ). AreRight before (map Needs ns)) list
            (subst⁻¹ (AreRight before) (map-append Needs (needed_to at) ((at + 1) ∷ [])) (right-join before (map Needs (needed_to at)) (Needs (at + 1) ∷ []) right (is, tt)))
        | inr drop ↦
            let list : needed_to (at + 1) ≡ needed_to at = needed-more at ∙ ap (λ (ns : List ℕ). needed_to at ++ ns) (one-dropped at drop) ∙ append-nil (needed_to at) in
            subst⁻¹ (λ (ns : List ℕ). AreRight before (map Needs ns)) list right
      ]

  -- a page is lost, behind pages that are not
  pub needed-lost : (at : ℕ) (flags : List Bool) (before : List Found) → at < base.count → IsMarked flags before → at + 1 < length flags → (stands (at + 1) && not (slice_index_or flags (at + 1) false)) ≡ true
      → AreRight before (map Needs (needed_to at)) → FirstWrong before (map Needs (pages_needed sizes base)) (file.PageLost (at + 1))
  needed-lost at flags before within marked low lost right =
      let is = both-true (stands (at + 1)) (slice_index_or flags (at + 1) false) lost in
      let rest = filter stands (range_with_len ((at + 1) + 1) (base.count - (at + 1))) in
      let more : base.count - at ≡ suc (base.count - (at + 1)) = omega (arith, within) in
      let next : 1 + at ≡ at + 1 = omega arith in
      let cut : range_with_len 1 base.count ≡ range_with_len 1 at ++ range_with_len (at + 1) (suc (base.count - (at + 1))) =
      range-split 1 at (base.count - at) base.count (omega (arith, within)) ∙ ap₂ (λ (a n : ℕ). range_with_len 1 at ++ range_with_len a n) next more in
      let kept : filter stands (range_with_len (at + 1) (suc (base.count - (at + 1)))) ≡ (at + 1) ∷ rest = ap (λ (t : Bool). cond t ((at + 1) ∷ rest) rest) is.0 in
      let list : pages_needed sizes base ≡ needed_to at ++ ((at + 1) ∷ rest) =
      ap (filter stands) cut ∙ filter-append stands (range_with_len 1 at) (range_with_len (at + 1) (suc (base.count - (at + 1)))) ∙ ap (λ (ns : List ℕ). needed_to at ++ ns) kept in
      let missed = sym (marked-needs flags before (needed_to at) marked (at + 1) low) ∙ is.1 in
      let wrong : FirstWrong (before ++ map Needs (needed_to at)) (map Needs ((at + 1) ∷ rest)) (file.PageLost (at + 1)) = inl (missed, refl) in
      subst⁻¹ (λ (ns : List ℕ). FirstWrong before (map Needs ns) (file.PageLost (at + 1))) list
      (subst⁻¹ (λ (found : List Found). FirstWrong before found (file.PageLost (at + 1))) (map-append Needs (needed_to at) ((at + 1) ∷ rest))
      (wrong-back before (map Needs (needed_to at)) (map Needs ((at + 1) ∷ rest)) (file.PageLost (at + 1)) right wrong))
