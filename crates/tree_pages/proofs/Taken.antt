-- What a page that is taken makes of the pages, in the words of trees, and when none is taken.
use Rattle.std.proofs.Common.{◌≡◌, ◌≢◌, ◌⊎◌, ℕ, ◌-◌, ◌<◌, ◌≤◌, List, [], ◌∷◌, length, Option, Some, Err, Bool, if◌then◌else◌, refl, sym, ap, ◌∙◌, subst, inl, inr, arith, eq-eqb}
use Rattle.std.proofs.Math.Path.{subst⁻¹}
use Rattle.std.proofs.lemmas.Bool.{cases_eq, ne_eqb}
use Rattle.std.proofs.lemmas.Option.{same_Some}
use Rattle.common_spec.specs.Reading.{Reads, OrFault}
use Rattle.format_spec.specs.Header.{freelist_trunk}
use Rattle.page_spec.specs.Pages.{Pages, IsInRange}
use Rattle.page_spec.specs.Freelists.{Trunk, IsTrunk, IsFreelist, AreTrunks, free_pages, leaf_count, leaf_at}
use Rattle.page_spec.specs.FreePages.{slack, page_past}
use Rattle.page_spec.specs.FreePagesLaws.{slack-none}
use Rattle.tree_spec.specs.Standing.{Sizes, Paged}
use Rattle.tree_spec.specs.ChangesLaws.{Turns-few}
use Rattle.put_spec.specs.Steps.{Took}
use Rattle.free_list.specs.declared.fault.FreeFault.{FreeFault}
use Rattle.free_list.specs.declared.fault.FreeFault.TheVariants as free
use Rattle.free_list.specs.Answers.{RefusesNext, IsBadTake, IsTakeFault, given_page}
use Rattle.free_list.specs.Answers as freelist
use Rattle.free_list.specs.Steps.{ChangesFew, Takes}
use Rattle.free_list.specs.Written.{IsOfStore}
use Rattle.tree_spec.specs.declared.fault.TreeFault.{TreeFault}
use Rattle.tree_spec.specs.Faults.{fault_in, IsOther, IsFull}
use Rattle.tree_pages.specs.Faults.{from_freelist}
use Rattle.tree_pages.specs.Takes.{IsShort}

pub took : (sizes : Sizes) (limit page count now : ℕ) (old : Pages) (told : Option Pages) → count ≤ now → ChangesFew count page old told
    → ((trunks : List Trunk) → IsFreelist old sizes.size sizes.usable count trunks → Takes sizes.size sizes.usable limit count old trunks page told now)
    → (new : Pages) × (told ≡ Some new) × Took sizes page (record { count = count; pages = old }) (record { count = now; pages = new })
took sizes limit page count now old told grows few takes = (
  few.new,
  few.tells,
  λ trunks free.
      let t = takes trunks free in
      let same : t.new ≡ few.new = same_Some t.new few.new (sym t.tells ∙ few.tells) in
      let a : Paged = record { count = count; pages = old } in
      let b : Paged = record { count = now; pages = few.new } in (
        t.left,
        Turns-few sizes a b [] (page ∷ []) trunks t.left grows
            (λ n not_first low none not_free. sym (ap (λ (f : Pages). f n) same) ∙ t.others n not_first low not_free)
            few.first
            (λ _. subst (λ (f : Pages). IsFreelist f sizes.size sizes.usable now t.left) same t.freelist)
            (λ n. omega (arith, t.balance n)),
      ),
)

-- A sound freelist gives a page, or has none; then the next one past the end passes the limit.
module _ (pages : Pages) (size usable count : ℕ) where
  given-in_range : (trunk : Trunk) → IsTrunk pages size usable count trunk → IsInRange size count (given_page trunk.page (pages trunk.page))
  given-in_range trunk is =
      let leaves = leaf_count (pages trunk.page) in
      let last = leaf_at (pages trunk.page) (leaves - 1) in
      elim (cases_eq leaves 0) [
        | inl none ↦ subst⁻¹ (IsInRange size count) (ap (λ (b : Bool). if b then trunk.page else last) (eq-eqb leaves 0 none)) is.in_range
        | inr some ↦
            let low : leaves - 1 < length trunk.leaves = omega (arith, is.counts) in
            subst⁻¹ (IsInRange size count) (ap (λ (b : Bool). if b then trunk.page else last) (ne_eqb leaves 0 some) ∙ is.names (leaves - 1) low)
            (is.leaves_in_range (leaves - 1) 0 low)
      ]

  trunk-sound : (trunk : Trunk) (page : ℕ) → IsTrunk pages size usable count trunk → ¬ IsBadTake pages size usable count trunk.page page
  trunk-sound trunk page is (inl (inl out)) = out.0 is.in_range
  trunk-sound trunk page is (inl (inr many)) = omega (arith, is.few, is.counts, many.1)
  trunk-sound trunk page is (inr out) = out.1 (given-in_range trunk is)

  pub trunks-sound : (first page : ℕ) (trunks : List Trunk) → AreTrunks pages size usable count first trunks → first ≢ 0 → ¬ IsBadTake pages size usable count first page
  trunks-sound first page [] named some bad = some named
  trunks-sound first page (trunk ∷ trunks) named some bad =
      trunk-sound trunk page named.1 (subst (λ (n : ℕ). IsBadTake pages size usable count n page) named.0 bad)

  take-sound : {F : Type 0} (first : ℕ) (fault : FreeFault F) (trunks : List Trunk) → AreTrunks pages size usable count first trunks → first ≢ 0 → ¬ IsTakeFault pages size usable count first fault
  take-sound first (free.TrunkDamaged page) trunks named some bad = trunks-sound first page trunks named some bad
  take-sound first (free.TargetFull has most) trunks named some bad = bad
  take-sound first (free.Store fault) trunks named some bad = bad
  take-sound first (free.Memory error) trunks named some bad = bad

  no-slack : (first limit : ℕ) (trunks : List Trunk) → AreTrunks pages size usable count first trunks → first ≡ 0 → limit < page_past size count → slack size count limit (free_pages trunks) ≡ 0
  no-slack first limit [] named none past = slack-none size count limit past
  no-slack first limit (trunk ∷ trunks) named none past = absurd (omega (arith, named.0, named.1.in_range.behind_first, none))

  full-sound : {F : Type 0} (first limit : ℕ) (fault : FreeFault F) (trunks : List Trunk) → AreTrunks pages size usable count first trunks → first ≡ 0 → freelist.IsFull size count limit fault
      → IsFull count limit (from_freelist fault) × (slack size count limit (free_pages trunks) ≡ 0)
  full-sound first limit (free.TrunkDamaged page) trunks named none full = absurd full
  full-sound first limit (free.TargetFull has most) trunks named none full = ((full.1, full.2), no-slack first limit trunks named none full.0)
  full-sound first limit (free.Store fault) trunks named none full = absurd full
  full-sound first limit (free.Memory error) trunks named none full = absurd full

  pub refused : {F : Type 0} (limit : ℕ) (fault : FreeFault F) (trunks : List Trunk) → IsFreelist pages size usable count trunks → RefusesNext pages size usable count limit fault
      → IsFull count limit (from_freelist fault) × (slack size count limit (free_pages trunks) ≡ 0)
  refused limit fault trunks is (inl full) = full-sound (freelist_trunk (pages 1)) limit fault trunks is.named full.0 full.1
  refused limit fault trunks is (inr bad) = absurd (take-sound (freelist_trunk (pages 1)) fault trunks is.named bad.0 bad.1)

pub other : {F : Type 0} (fault : FreeFault F) → freelist.IsOther fault → IsOther (from_freelist fault)
other (free.TrunkDamaged page) is = is
other (free.TargetFull has most) is = is
other (free.Store fault) is = is
other (free.Memory error) is = is

pub fault-same : {F : Type 0} (fault : FreeFault F) → fault_in (from_freelist fault) ≡ freelist.fault_in fault
fault-same (free.TrunkDamaged page) = refl
fault-same (free.TargetFull has most) = refl
fault-same (free.Store fault) = refl
fault-same (free.Memory error) = refl

pub refusal : {F : Type 0} (pages : Pages) (size usable count limit : ℕ) (N : ℕ → Type 0) (fault : FreeFault F) (answer : TreeFault F) (trunks : List Trunk) → answer ≡ from_freelist fault
    → IsFreelist pages size usable count trunks → freelist.IsOther fault ⊎ Reads (OrFault N (RefusesNext pages size usable count limit)) (Err fault)
    → IsOther answer ⊎ (IsFull count limit answer × (slack size count limit (free_pages trunks) ≡ 0))
refusal {F} pages size usable count limit N fault answer trunks is free answers =
    subst⁻¹ (λ (f : TreeFault F). IsOther f ⊎ (IsFull count limit f × (slack size count limit (free_pages trunks) ≡ 0))) is (by answers)
  where
    by : freelist.IsOther fault ⊎ Reads (OrFault N (RefusesNext pages size usable count limit)) (Err fault)
        → IsOther (from_freelist fault) ⊎ (IsFull count limit (from_freelist fault) × (slack size count limit (free_pages trunks) ≡ 0))
    by (inl is_other) = inl (other fault is_other)
    by (inr reads) = inr (refused pages size usable count limit fault trunks free reads.holds)

-- where no page is taken, and the store did not fail, the count stays
of-store : {F : Type 0} (fault : FreeFault F) → IsOfStore fault → freelist.IsOther fault
of-store (free.TrunkDamaged page) is = is
of-store (free.TargetFull has most) is = is
of-store (free.Store fault) is = is
of-store (free.Memory error) is = tt

pub stays-refused : {F A B : Type 0} (fault : FreeFault F) (answer : TreeFault F) → answer ≡ from_freelist fault → IsOfStore fault ⊎ (A × B) → IsOther answer ⊎ B
stays-refused fault answer is (inl of_store) = inl (subst⁻¹ IsOther is (other fault (of-store fault of_store)))
stays-refused fault answer is (inr stays) = inr stays.1

-- so the fault tells the count that there is then
pub short : {F : Type 0} (sizes : Sizes) (limit count now : ℕ) (old : Pages) (trunks : List Trunk) (fault : TreeFault F) → IsOther fault ⊎ (now ≡ count)
    → IsOther fault ⊎ (IsFull count limit fault × (slack sizes.size count limit (free_pages trunks) ≡ 0)) → IsShort sizes 1 limit (record { count = count; pages = old }) trunks now fault
short sizes limit count now old trunks fault (inl is_other) refused = inl is_other
short sizes limit count now old trunks fault (inr same) (inl is_other) = inl is_other
short sizes limit count now old trunks fault (inr same) (inr full) = inr (subst⁻¹ (λ (n : ℕ). IsFull n limit fault) same full.0, omega (arith, full.1))
