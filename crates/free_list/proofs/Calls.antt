-- What follows for the pages that a call found from what its parts say.
use Rattle.std.proofs.Common.{◌≡◌, ◌≢◌, ℕ, ◌+◌, ◌-◌, ◌/◌, ◌^◌, ◌<◌, ◌≤◌, ◌⊎◌, List, [], Option, Some, Result, Ok, Err, IfOk, IfErr, OnOk, IfSome, length, sym, ap, ◌∙◌, subst, inl, inr, arith}
use Rattle.std.proofs.Math.Path.{subst⁻¹}
use Rattle.std.proofs.lemmas.Result.{IfOk-weaker, IfErr-weaker, on_ok_weaker}
use Rattle.common_spec.specs.Told.{Leads}
use Rattle.format_spec.specs.Header.{freelist_trunk}
use Rattle.format_spec.specs.Sizes.{IsUsable}
use Rattle.page_spec.specs.Pages.{Pages, IsInRange, with_page}
use Rattle.page_spec.specs.Counts.{times}
use Rattle.page_spec.specs.FreePages.{due_pages, page_past}
use Rattle.page_spec.specs.FreePagesLaws.{due_pages-appended}
use Rattle.page_spec.specs.PagesLaws.{page_past-cases}
use Rattle.page_spec.specs.Freelists.{Trunk, IsFreelist, free_pages, leaf_count}
use Rattle.page_store.specs.StoreLaws.{IfSome-told, Leads-told}
use Rattle.free_list.specs.declared.fault.FreeFault.{FreeFault}
use Rattle.free_list.specs.Answers.{IsOther, IsTakeFault}
use Rattle.free_list.specs.Steps.{Takes, Gives, ChangesFew}
use Rattle.free_list.specs.Written.{TakesFrom, Appends, with_freelist, with_leaf, empty_trunk, one_more_free}
use Rattle.free_list.proofs.Answering.{IsAnswer, answers-take, few-past, few-take, few-both}
use Rattle.free_list.proofs.Taking.{taken-from, taken-past, free-none}
use Rattle.free_list.proofs.Giving.{given-trunk, given-leaf}

-- what holds at sizes that stayed
pub sizes-stayed : (P : ℕ → ℕ → ℕ → Type 0) {size usable count size1 usable1 count1 : ℕ} → size1 ≡ size → usable1 ≡ usable → count1 ≡ count
    → P size1 usable1 count1 → P size usable count
sizes-stayed P {size} {usable} {count} {size1} {usable1} {count1} a b c p =
    subst (λ (s : ℕ). P s usable count) a (subst (λ (u : ℕ). P size1 u count) b (subst (λ (n : ℕ). P size1 usable1 n) c p))

-- with the next page past the end there is one page more
pub past-rises : {F : Type 0} (size count limit now : ℕ) (result : Result ℕ (FreeFault F)) → IfOk result (λ page. (page ≡ page_past size count) × (page ≤ limit)) → IfOk result (λ page. now ≡ page)
    → OnOk result (due_pages size now ≤ due_pages size count + 1)
past-rises size count limit now (Err fault) next counts = tt
past-rises size count limit now (Ok page) next counts = omega (arith, ap (due_pages size) (counts ∙ next.0), due_pages-appended size count)

module _ (F : Type 0) (size usable limit count : ℕ) (m : Pages) (first : List ℕ) (is_first : first ≡ m 1) (is_usable : IsUsable usable) (within : usable ≤ size) (long : length first ≡ size) where
  first-long : 40 ≤ length (m 1)
  first-long = omega (arith, ap length is_first, long, is_usable.least)

  -- a page past the end was taken
  pub past-taken : (result : Result ℕ (FreeFault F)) (told after : Option Pages) (now : ℕ) → told ≡ Some m → freelist_trunk first ≡ 0 → limit < 2 ^ 32 → 1 ≤ count
      → IfOk result (λ page. (page ≡ page_past size count) × (page ≤ limit)) → IfOk result (λ page. now ≡ page)
      → IfOk result (λ page. Leads (Appends count first page) told after) → (trunks : List Trunk) → IsFreelist m size usable count trunks
      → IfOk result (λ page. Takes size usable limit count m trunks page after now)
  past-taken (Err fault) told after now tells none fits some next counts leads trunks is = tt
  past-taken (Ok page) told after now tells none fits some next counts leads trunks is =
      let to = Leads-told m tells leads in
      let count_fits : count < 256 ^ 4 = elim (page_past-cases size count) [ inl two ↦ omega (arith, two.1, next.0, next.1, fits) | inr one ↦ omega (arith, one.1, next.0, next.1, fits) ] in
      subst⁻¹ (λ (n : ℕ). Takes size usable limit count m trunks page after n) counts
      (taken-past size usable limit count m trunks is count_fits first-long page to.0 after to.1 (ap freelist_trunk (sym is_first) ∙ none) next.0 next.1 (omega (arith, next.1, fits)) some
      (subst (λ (f : List ℕ). Appends count f page m to.0) is_first to.2))

  pub past-few : (result : Result ℕ (FreeFault F)) (told after : Option Pages) → told ≡ Some m → IfOk result (λ page. Leads (Appends count first page) told after)
      → IfOk result (λ page. ChangesFew count page m after)
  past-few (Err fault) told after tells leads = tt
  past-few (Ok page) told after tells leads =
      let to = Leads-told m tells leads in
      few-past size usable count m to.0 after to.1 first-long page (subst (λ (f : List ℕ). Appends count f page m to.0) is_first to.2)

  module _ (trunk : ℕ) (at : trunk ≡ freelist_trunk first) (some : trunk ≢ 0) (result : Result ℕ (FreeFault F)) (told after : Option Pages) (tells : told ≡ Some m)
      (leads : IfOk result (λ page. Leads (TakesFrom size usable count trunk first page) told after)) where
    trunk-first : trunk ≡ freelist_trunk (m 1)
    trunk-first = at ∙ ap freelist_trunk is_first

    -- a page of the first trunk was taken
    pub take-taken : (now : ℕ) → OnOk result (now ≡ count) → OnOk result (count < 2 ^ 32) → (trunks : List Trunk) → IsFreelist m size usable count trunks
        → IfOk result (λ page. Takes size usable limit count m trunks page after now)
    take-taken now counts fits trunks is = by result leads counts fits
      where
        by : (r : Result ℕ (FreeFault F)) → IfOk r (λ page. Leads (TakesFrom size usable count trunk first page) told after) → OnOk r (now ≡ count) → OnOk r (count < 2 ^ 32)
            → IfOk r (λ page. Takes size usable limit count m trunks page after now)
        by (Err fault) led same small = tt
        by (Ok page) led same small =
            let to = Leads-told m tells led in
            subst⁻¹ (λ (n : ℕ). Takes size usable limit count m trunks page after n) same
            (taken-from size usable limit count m trunks is (omega (arith, small)) first-long trunk page to.0 after is_usable within to.1 trunk-first some
            (subst (λ (f : List ℕ). TakesFrom size usable count trunk f page m to.0) is_first to.2))

    pub take-few : IfOk result (λ page. ChangesFew count page m after)
    take-few = IfOk-weaker result (λ page. Leads (TakesFrom size usable count trunk first page) told after) (λ page. ChangesFew count page m after) (λ page led.
        let to = Leads-told m tells led in
        few-take size usable count m to.0 after to.1 first-long trunk page trunk-first (subst (λ (f : List ℕ). TakesFrom size usable count trunk f page m to.0) is_first to.2)) leads

    pub take-answers : IfErr result (λ fault. IfSome told (λ p. IsOther fault ⊎ IsTakeFault p size usable count trunk fault)) → IsAnswer m size usable count F limit result
    take-answers refuses =
        answers-take m size usable count F limit trunk first result trunk-first some
        (IfOk-weaker result (λ page. Leads (TakesFrom size usable count trunk first page) told after) (λ page. (new : Pages) × TakesFrom size usable count trunk first page m new) (λ page led.
        let to = Leads-told m tells led in (to.0, to.2)) leads)
        (IfErr-weaker result (λ fault. IfSome told (λ p. IsOther fault ⊎ IsTakeFault p size usable count trunk fault)) (λ fault. IsOther fault ⊎ IsTakeFault m size usable count trunk fault)
        (λ fault told_of. IfSome-told (λ p. IsOther fault ⊎ IsTakeFault p size usable count trunk fault) m tells told_of) refuses)

  module _ (result : Result Unit (FreeFault F)) (told after : Option Pages) (tells : told ≡ Some m) (page : ℕ) (in_range : IsInRange size count page) (page_fits : page < 256 ^ 4)
      (first_fits : freelist_trunk first < 256 ^ 4) where
    trunk-fits : freelist_trunk (m 1) < 256 ^ 4
    trunk-fits = subst (λ (f : List ℕ). freelist_trunk f < 256 ^ 4) is_first first_fits

    -- where there is no trunk, one page more can be counted
    pub room-none : (trunks : List Trunk) → freelist_trunk first ≡ 0 → IsFreelist m size usable count trunks → length (free_pages trunks) + 1 < 2 ^ 32
    room-none trunks none is =
        let no_trunk : trunks ≡ [] = free-none m size usable count trunks (ap freelist_trunk (sym is_first) ∙ none) is.named in
        omega (arith, ap (λ (ts : List Trunk). length (free_pages ts)) no_trunk)

    module _ (leads : OnOk result (Leads (λ p k. k ≡ with_page (with_page p page (empty_trunk size (freelist_trunk first))) 1 (with_freelist page (one_more_free first) first)) told after)) where
      -- the page is the new first trunk
      pub trunk-given : (trunks : List Trunk) → IsFreelist m size usable count trunks → times page (free_pages trunks) ≡ 0 → length (free_pages trunks) + 1 < 2 ^ 32
          → OnOk result (Gives size usable limit count m trunks page after)
      trunk-given trunks is not_free room =
          on_ok_weaker result (λ led.
          let to = Leads-told m tells led in
          given-trunk size usable limit count m trunks is first-long trunk-fits room page page_fits in_range not_free to.0 after (omega (arith, is_usable.least, within)) to.1
          (subst (λ (f : List ℕ). to.0 ≡ with_page (with_page m page (empty_trunk size (freelist_trunk f))) 1 (with_freelist page (one_more_free f) f)) is_first to.2)) leads

      pub trunk-few : OnOk result (ChangesFew count page m after)
      trunk-few =
          on_ok_weaker result (λ led.
          let to = Leads-told m tells led in
          few-both size usable count m to.0 after to.1 first-long page page page (one_more_free (m 1)) (empty_trunk size (freelist_trunk (m 1))) (λ n not_page not_trunk. not_page)
          (λ e. omega (arith, in_range.behind_first, e))
          (subst (λ (f : List ℕ). to.0 ≡ with_page (with_page m page (empty_trunk size (freelist_trunk f))) 1 (with_freelist page (one_more_free f) f)) is_first to.2)) leads

    module _ (trunk leaves : ℕ) (bytes : List ℕ) (at : trunk ≡ freelist_trunk first) (trunk_in_range : IsInRange size count trunk) (is_bytes : bytes ≡ m trunk)
        (counts : leaves ≡ leaf_count (m trunk))
        (leads : OnOk result (Leads (λ p k. k ≡ with_page (with_page p trunk (with_leaf leaves page bytes)) 1 (with_freelist trunk (one_more_free first) first)) told after)) where
      writes : (k : Pages) → k ≡ with_page (with_page m trunk (with_leaf leaves page bytes)) 1 (with_freelist trunk (one_more_free first) first)
          → k ≡ with_page (with_page m trunk (with_leaf (leaf_count (m trunk)) page (m trunk))) 1 (with_freelist trunk (one_more_free (m 1)) (m 1))
      writes k e =
          subst (λ (f : List ℕ). k ≡ with_page (with_page m trunk (with_leaf (leaf_count (m trunk)) page (m trunk))) 1 (with_freelist trunk (one_more_free f) f)) is_first
          (subst (λ (b : List ℕ). k ≡ with_page (with_page m trunk (with_leaf (leaf_count (m trunk)) page b)) 1 (with_freelist trunk (one_more_free first) first)) is_bytes
          (subst (λ (n : ℕ). k ≡ with_page (with_page m trunk (with_leaf n page bytes)) 1 (with_freelist trunk (one_more_free first) first)) counts e))

      -- the page is a leaf page of the first trunk
      pub leaf-given : length bytes ≡ size → leaves < usable / 4 - 8 → (trunks : List Trunk) → IsFreelist m size usable count trunks → times page (free_pages trunks) ≡ 0
          → length (free_pages trunks) + 1 < 2 ^ 32 → OnOk result (Gives size usable limit count m trunks page after)
      leaf-given whole few trunks is not_free room =
          on_ok_weaker result (λ led.
          let to = Leads-told m tells led in
          given-leaf size usable limit count m trunks is first-long trunk-fits room page page_fits in_range not_free trunk to.0 after is_usable
          (omega (arith, whole, within, ap length is_bytes)) to.1 (at ∙ ap freelist_trunk is_first) (λ e. omega (arith, trunk_in_range.behind_first, e)) (omega (arith, few, counts))
          (writes to.0 to.2)) leads

      pub leaf-few : OnOk result (ChangesFew count page m after)
      leaf-few =
          on_ok_weaker result (λ led.
          let to = Leads-told m tells led in
          few-both size usable count m to.0 after to.1 first-long page trunk trunk (one_more_free (m 1)) (with_leaf (leaf_count (m trunk)) page (m trunk))
          (λ n not_page not_trunk e. not_trunk (e ∙ at ∙ ap freelist_trunk is_first)) (λ e. omega (arith, trunk_in_range.behind_first, e)) (writes to.0 to.2)) leads
