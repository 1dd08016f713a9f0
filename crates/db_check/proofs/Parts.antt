-- Flags of pages, and what is found in parts.
use Rattle.std.proofs.Common.{◌≡◌, ℕ, zero, suc, ◌+◌, ◌-◌, ◌<◌, ◌==◌, ◌||◌, Bool, true, false, List, [], ◌∷◌, ◌++◌, length, map, slice_index_or, if◌then◌else◌, refl, sym, ap, ap₂, ◌∙◌, subst, inl, inr, arith, append_assoc}
use Rattle.std.proofs.Math.Path.{subst⁻¹}
use Rattle.std.specs.Prelude.{slice_set}
use Rattle.std.specs.List.{list_any, range_with_len}
use Rattle.std.proofs.lemmas.Bool.{cases_eq, eq-eqb, ne_eqb}
use Rattle.std.proofs.lemmas.List.{get_or-set_same, get_or-set_other, length-set, map-append}
use Rattle.std.proofs.lemmas.List.FromFn.{map-range_with_len_more}
use Rattle.page_spec.specs.Pages.{IsInRange}
use Rattle.page_spec.specs.Freelists.{leaf_at}
use Rattle.tree_spec.specs.Standing.{Sizes, Paged, IsNumber}
use Rattle.database_spec.specs.ItemsLaws.{or-right}
use Rattle.database_spec.specs.Walks.{Finds}
use Rattle.database_spec.specs.FileFindings.{Subject, Found, InTree, Frees, Tears, leaf_found}
use Rattle.database_spec.specs.FileFaults.{is_found}
use Rattle.database_laws.specs.RightFindings.{AreRight}
use Rattle.database_laws.specs.RightFindingsLaws.{numbers_in, right-join, found-append}
use Rattle.database_laws.specs.FoundFreelistsLaws.{number-is}
use Rattle.db_check.specs.Passes.{IsMarked}

pub or-none : (s t : Bool) → t ≡ false → (s || t) ≡ s
or-none true t e = refl
or-none false t e = e

-- the flag of one page more is set
marked-one : (flags : List Bool) (before : List Found) (page : ℕ) (one : Found) → numbers_in (one ∷ []) ≡ page ∷ [] → page < length flags → IsMarked flags before → IsMarked (slice_set flags page true) (before ++ one ∷ [])
marked-one flags before page one is low marked n within =
    let some : n < length flags = omega (arith, within, length-set flags page true) in
    let alone : is_found n (one ∷ []) ≡ ((page == n) || false) = ap (list_any (λ (x : ℕ). x == n)) is in
    elim (cases_eq page n) [
      | inl same ↦
          let here : slice_index_or (slice_set flags page true) n false ≡ true = ap (λ (k : ℕ). slice_index_or (slice_set flags page true) k false) (sym same) ∙ get_or-set_same flags page true false low in
          let own : is_found n (one ∷ []) ≡ true = alone ∙ ap (λ (t : Bool). t || false) (eq-eqb page n same) in
          here ∙ sym (found-append n before (one ∷ []) ∙ or-right (is_found n before) (is_found n (one ∷ [])) own)
      | inr apart ↦
          let own : is_found n (one ∷ []) ≡ false = alone ∙ ap (λ (t : Bool). t || false) (ne_eqb page n apart) in
          get_or-set_other flags page n true false (λ e. apart (sym e)) ∙ marked n some ∙ sym (found-append n before (one ∷ []) ∙ or-none (is_found n before) (is_found n (one ∷ [])) own)
    ]

pub marked-free : (flags : List Bool) (before : List Found) (page : ℕ) → page < length flags → IsMarked flags before → IsMarked (slice_set flags page true) (before ++ Frees page ∷ [])
marked-free flags before page low marked = marked-one flags before page (Frees page) refl low marked

pub marked-page : (flags now : List Bool) (before : List Found) (subject : Subject) (page : ℕ) → page < length flags → now ≡ slice_set flags page true → IsMarked flags before
    → IsMarked now (before ++ InTree subject (Finds page) ∷ [])
marked-page flags now before subject page low set marked =
    subst⁻¹ (λ (list : List Bool). IsMarked list (before ++ InTree subject (Finds page) ∷ [])) set (marked-one flags before page (InTree subject (Finds page)) refl low marked)

pub range-split : (a k rest n : ℕ) → n ≡ k + rest → range_with_len a n ≡ range_with_len a k ++ range_with_len (a + k) rest
range-split a zero rest n e = let here : a ≡ a + 0 = omega arith in let all : n ≡ rest = omega (arith, e) in ap₂ range_with_len here all
range-split a (suc k) rest zero e = absurd (omega (arith, e))
range-split a (suc k) rest (suc n) e =
    let on : (a + 1) + k ≡ a + suc k = omega arith in
    ap (λ (ns : List ℕ). a ∷ ns) (range-split (a + 1) k rest n (omega (arith, e)) ∙ ap (λ (m : ℕ). range_with_len (a + 1) k ++ range_with_len m rest) on)

module _ (sizes : Sizes) (base : Paged) (trunk at : ℕ) where
  abbrev leaf : ℕ
  leaf = leaf_at (base.pages trunk) at

  abbrev as_test : Bool → Found
  as_test t = if t then Frees leaf else Tears trunk

  pub leaf-is : IsNumber sizes base leaf → leaf_found sizes base trunk at ≡ Frees leaf
  leaf-is is = ap as_test (number-is sizes base leaf is)

  pub leaf-new : (before : List Found) (flags : List Bool) → IsNumber sizes base leaf → is_found leaf before ≡ false → leaf < length flags → IsMarked flags before
      → AreRight before (leaf_found sizes base trunk at ∷ []) × IsMarked (slice_set flags leaf true) (before ++ leaf_found sizes base trunk at ∷ [])
  leaf-new before flags is new low marked =
      subst⁻¹ (λ (one : Found). AreRight before (one ∷ []) × IsMarked (slice_set flags leaf true) (before ++ one ∷ [])) (leaf-is is) ((new, tt), marked-free flags before leaf low marked)

-- The end of a leaf page, over what its caller knows.
module _ (sizes : Sizes) (base : Paged) (trunk at size count number : ℕ) (page : List ℕ) (flags : List Bool) (before : List Found) (same_size : sizes.size ≡ size) (same_count : base.count ≡ count)
    (same_page : base.pages trunk ≡ page) (is : number ≡ leaf_at page at) (marked : IsMarked flags before) where
  number-is_leaf : number ≡ leaf_at (base.pages trunk) at
  number-is_leaf = is ∙ ap (λ (p : List ℕ). leaf_at p at) (sym same_page)

  number-within : (n : ℕ) → IsInRange size count n → IsNumber sizes base n
  number-within n in_range = subst⁻¹ (λ (s : ℕ). IsInRange s base.count n) same_size (subst⁻¹ (λ (c : ℕ). IsInRange size c n) same_count in_range)

  pub leaf_page-new : (now : List Bool) → IsInRange size count number → number < length flags → slice_index_or flags number false ≡ false → now ≡ slice_set flags number true
      → AreRight before (leaf_found sizes base trunk at ∷ []) × IsMarked now (before ++ leaf_found sizes base trunk at ∷ [])
  leaf_page-new now in_range low new set =
      subst⁻¹ (λ (list : List Bool). AreRight before (leaf_found sizes base trunk at ∷ []) × IsMarked list (before ++ leaf_found sizes base trunk at ∷ []))
      (set ∙ ap (λ (n : ℕ). slice_set flags n true) number-is_leaf)
      (leaf-new sizes base trunk at before flags (number-within (leaf_at (base.pages trunk) at) (subst (IsInRange size count) number-is_leaf in_range))
      (ap (λ (n : ℕ). is_found n before) (sym number-is_leaf) ∙ sym (marked number low) ∙ new) (subst (λ (n : ℕ). n < length flags) number-is_leaf low) marked)

-- one more thing is right
pub passed-more : (before xs : List Found) (one : Found) (flags : List Bool) → AreRight before xs → AreRight (before ++ xs) (one ∷ []) → IsMarked flags ((before ++ xs) ++ one ∷ [])
    → AreRight before (xs ++ one ∷ []) × IsMarked flags (before ++ (xs ++ one ∷ []))
passed-more before xs one flags front back marked =
    (right-join before xs (one ∷ []) front back, subst (IsMarked flags) (append_assoc before xs (one ∷ [])) marked)

-- the leaf pages of a trunk up to one of them, and from it on
pub leaves-split : (f : ℕ → Found) (at leaves : ℕ) → at < leaves → map f (range_with_len 0 leaves) ≡ map f (range_with_len 0 at) ++ ((f at ∷ []) ++ map f (range_with_len (at + 1) (leaves - (at + 1))))
leaves-split f at leaves low =
    let cut = range-split 0 at (leaves - at) leaves (omega (arith, low)) in
    let here : 0 + at ≡ at = omega arith in
    let rest : leaves - at ≡ suc (leaves - (at + 1)) = omega (arith, low) in
    ap (map f) (cut ∙ ap₂ (λ (a n : ℕ). range_with_len 0 at ++ range_with_len a n) here rest) ∙ map-append f (range_with_len 0 at) (range_with_len at (suc (leaves - (at + 1))))

pub leaves-more : (f : ℕ → Found) (at : ℕ) → map f (range_with_len 0 (at + 1)) ≡ map f (range_with_len 0 at) ++ f at ∷ []
leaves-more f at = map-range_with_len_more f 0 at at (omega arith)
