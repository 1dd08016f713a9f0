-- Pages in memory after one was written, and after the count was set.
use Rattle.std.proofs.Common.{◌≡◌, ℕ, zero, suc, ◌+◌, ◌-◌, ◌<◌, ◌≤◌, ◌==◌, if◌then◌else◌, Bool, true, false, List, [], ◌∷◌, length, take, map, get_or, set, Vec, Global, vec_len, refl, sym, ap, ◌∙◌, inl, inr, arith, eq-eqb}
use Rattle.std.proofs.lemmas.Bool.{cases_eq, cases_lt, ne_eqb}
use Rattle.std.proofs.lemmas.List.{get_or-set_same, get_or-set_other, get_or-take, length-map, map-set, take-map}
use Rattle.std.proofs.Math.Path.{fun_ext}
use Rattle.page_spec.specs.Pages.{Pages, with_page}
use Rattle.page_store.specs.Plain.{numbered}

-- a page that is written, by its place in the list
numbered-set_place : (contents : List (List ℕ)) (i : ℕ) (bytes : List ℕ) → i < length contents → (n : ℕ) → numbered (set contents i bytes) n ≡ with_page (numbered contents) (suc i) bytes n
numbered-set_place contents i bytes inside zero = ap (λ (b : Bool). if b then bytes else []) (sym (ne_eqb (suc i) zero (λ e. omega arith)))
numbered-set_place contents i bytes inside (suc k) =
    elim (cases_eq i k) [
      | inl same ↦
          let there : k < length contents = omega arith in
          ap (λ (m : ℕ). get_or (set contents i bytes) m []) (sym same) ∙ get_or-set_same contents i bytes [] inside
          ∙ ap (λ (b : Bool). if b then bytes else get_or contents k []) (sym (eq-eqb (suc i) (suc k) (ap (λ (m : ℕ). suc m) same)))
      | inr apart ↦
          get_or-set_other contents i k bytes [] (λ e. apart (sym e))
          ∙ ap (λ (b : Bool). if b then bytes else get_or contents k []) (sym (ne_eqb (suc i) (suc k) (λ e. apart (omega arith))))
    ]

pub numbered-set : (contents : List (List ℕ)) (number : ℕ) (bytes : List ℕ) → 1 ≤ number → number ≤ length contents
    → numbered (set contents (number - 1) bytes) ≡ with_page (numbered contents) number bytes
numbered-set contents number bytes first within =
    let back : suc (number - 1) ≡ number = omega arith in
    fun_ext (numbered-set_place contents (number - 1) bytes (omega arith)) ∙ ap (λ (m : ℕ). with_page (numbered contents) m bytes) back

-- pages up to a count that two lists share
pub numbered-take : (contents others : List (List ℕ)) (count : ℕ) → take count contents ≡ take count others → (n : ℕ) → n ≤ count → numbered contents n ≡ numbered others n
numbered-take contents others count same zero within = refl
numbered-take contents others count same (suc k) within =
    sym (get_or-take count contents k [] (omega arith)) ∙ ap (λ (xs : List (List ℕ)). get_or xs k []) same ∙ get_or-take count others k [] (omega arith)
