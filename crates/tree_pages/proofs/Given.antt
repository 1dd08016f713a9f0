-- What is left of a chain while its pages are given back.
use Rattle.std.proofs.Common.{◌≡◌, ◌⊎◌, ℕ, suc, ◌+◌, ◌-◌, ◌*◌, ◌/◌, ◌%◌, ◌<◌, ◌≤◌, ◌==◌, if◌then◌else◌, List, [], ◌∷◌, length, Option, Some, Err, refl, sym, inl, inr, ap, ap₂, ◌∙◌, subst, arith, add-zero}
use Rattle.std.proofs.lemmas.Nat.{div-mul-add}
use Rattle.std.proofs.Math.Nat.{mod-eq-sub-div-mul}
use Rattle.std.proofs.Math.Path.{subst⁻¹}
use Rattle.std.proofs.lemmas.Option.{same_Some}
use Rattle.std.proofs.lemmas.List.{nil_from_length}
use Rattle.common_spec.specs.Reading.{Reads, OrFault}
use Rattle.format_spec.specs.Header.{freelist_trunk}
use Rattle.page_spec.specs.Counts.{times}
use Rattle.page_spec.specs.CountsLaws.{hit-itself, times-itself}
use Rattle.page_spec.specs.Pages.{Pages, IsInRange, next_page}
use Rattle.page_spec.specs.Chains.{AreLinked, named_behind, pages_for, IsChain}
use Rattle.page_spec.specs.Freelists.{Trunk, free_pages, IsFreelist}
use Rattle.page_spec.specs.FreePages.{due}
use Rattle.page_spec.specs.FreePagesLaws.{due-most}
use Rattle.tree_spec.specs.Standing.{Sizes, Paged, Keeps}
use Rattle.tree_spec.specs.StandingLaws.{chain-kept}
use Rattle.tree_spec.specs.Worlds.{IsFree}
use Rattle.tree_spec.specs.Changes.{Within, Turns}
use Rattle.tree_spec.specs.ChangesLaws.{Turns-then, Turns-wide, Turns-same, Turns-within, Turns-keeps, Turns-few}
use Rattle.put_spec.specs.Steps.{Releases}
use Rattle.free_list.specs.declared.fault.FreeFault.{FreeFault}
use Rattle.free_list.specs.declared.fault.FreeFault.TheVariants as free
use Rattle.free_list.specs.Answers.{RefusesRelease, IsBadTrunk, IsTrunkFault}
use Rattle.free_list.specs.Answers as freelist
use Rattle.free_list.specs.Steps.{ChangesFew, Gives}
use Rattle.tree_spec.specs.declared.fault.TreeFault.{TreeFault}
use Rattle.tree_spec.specs.Faults.{IsOther}
use Rattle.tree_pages.specs.Faults.{from_freelist}
use Rattle.tree_pages.proofs.Taken.{other, trunks-sound}

-- a page that was given back, in the words of trees
pub released : (sizes : Sizes) (page count now : ℕ) (old : Pages) (told : Option Pages) → now ≡ count → ChangesFew count page old told
    → ((trunks : List Trunk) → IsFreelist old sizes.size sizes.usable count trunks → times page (free_pages trunks) ≡ 0 → Gives sizes.size sizes.usable 0 count old trunks page told)
    → (new : Pages) × (told ≡ Some new) × Releases sizes page (record { count = count; pages = old }) (record { count = now; pages = new })
released sizes page count now old told stays few gives = (
  few.new,
  few.tells,
  λ trunks free apart.
      let t = gives trunks free apart in
      let same : t.new ≡ few.new = same_Some t.new few.new (sym t.tells ∙ few.tells) in
      let a : Paged = record { count = count; pages = old } in
      let b : Paged = record { count = now; pages = few.new } in
      let not_page = λ (n : ℕ) (none : times n (page ∷ []) ≡ 0) (e : n ≡ page). let one = times-itself page in let same_times = ap (λ (m : ℕ). times m (page ∷ [])) e in let wrong : ⊥ = omega arith in wrong in (
        t.more,
        Turns-few sizes a b (page ∷ []) [] trunks t.more (omega (arith, stays))
            (λ n not_first low none not_free. sym (ap (λ (f : Pages). f n) same) ∙ t.others n not_first (not_page n none) not_free)
            few.first
            (λ _. subst (λ (f : Pages). IsFreelist f sizes.size sizes.usable now t.more) same (subst⁻¹ (λ (c : ℕ). IsFreelist t.new sizes.size sizes.usable c t.more) stays t.freelist))
            (λ n. omega (arith, t.balance n, ap (λ (c : ℕ). due sizes.size c n) stays)),
      ),
)

-- A sound freelist takes a page.
pub refused-release : {F : Type 0} (pages : Pages) (size usable count : ℕ) (N : Unit {0} → Type 0) (fault : FreeFault F) (answer : TreeFault F) (trunks : List Trunk) → answer ≡ from_freelist fault
    → IsFreelist pages size usable count trunks → freelist.IsOther fault ⊎ Reads (OrFault N (RefusesRelease pages size usable count)) (Err fault) → IsOther answer
refused-release {F} pages size usable count N fault answer trunks is sound_list answers = subst⁻¹ IsOther is (by answers)
  where
    sound : (f : FreeFault F) → ¬ RefusesRelease pages size usable count f
    sound (free.TrunkDamaged page) bad = trunks-sound pages size usable count (freelist_trunk (pages 1)) page trunks sound_list.named bad.0 (inl bad.1)
    sound (free.TargetFull has most) bad = bad.1
    sound (free.Store error) bad = bad.1
    sound (free.Memory error) bad = bad.1

    by : freelist.IsOther fault ⊎ Reads (OrFault N (RefusesRelease pages size usable count)) (Err fault) → IsOther (from_freelist fault)
    by (inl is_other) = other fault is_other
    by (inr reads) = absurd (sound fault reads.holds)

-- as many bytes as whole pages hold
whole : (u n : ℕ) → 0 < u → n * u / u + (if n * u % u == 0 then 0 else 1) ≡ n
whole u n some =
    let pages : n * u / u ≡ n = ap (λ (m : ℕ). m / u) (sym (add-zero (n * u))) ∙ div-mul-add n u 0 some in
    let rest : n * u % u ≡ 0 = mod-eq-sub-div-mul (n * u) u ∙ omega (arith, ap (λ (q : ℕ). q * u) pages) in
    ap₂ (λ (q r : ℕ). q + (if r == 0 then 0 else 1)) pages rest ∙ add-zero n

pages_for-whole : (usable n : ℕ) → 480 ≤ usable → pages_for usable (n * (usable - 4)) ≡ n
pages_for-whole usable n least = whole (usable - 4) n (omega arith)

-- The first pages of a chain were given back; these are left, the first of them being named outside.
pub record Giving (sizes : Sizes) (a : Paged) (chain : List ℕ) (trunks : List Trunk) (number many : ℕ) (b : Paged) : Type 0 where
  pub rest : List Trunk
  pub left : List ℕ
  pub turns : Turns sizes a chain trunks b left rest
  pub linked : AreLinked b.pages sizes.size b.count number left
  pub ends : named_behind b.pages number left ≡ 0
  pub long : length left ≡ many

module _ (sizes : Sizes) (a : Paged) (chain : List ℕ) (trunks : List Trunk) where
  pub none-given : (first bytes : ℕ) → IsChain a.pages sizes.size sizes.usable a.count first bytes chain → Giving sizes a chain trunks first (pages_for sizes.usable bytes) a
  none-given first bytes is =
      record { rest = trunks; left = chain; turns = Turns-same sizes a chain chain trunks (λ n. refl); linked = is.linked; ends = is.ends; long = is.many }

  pub all-given : (number : ℕ) (b : Paged) → Giving sizes a chain trunks number 0 b → (rest : List Trunk) × Turns sizes a chain trunks b [] rest
  all-given number b g =
      (g.rest, subst (λ (left : List ℕ). Turns sizes a chain trunks b left g.rest) (nil_from_length g.left g.long) g.turns)

  further : (number many : ℕ) (b c : Paged) (rest : List Trunk) (left : List ℕ) → 480 ≤ sizes.usable → Within sizes a chain trunks → IsFree sizes a trunks → Releases sizes number b c
      → Turns sizes a chain trunks b left rest → AreLinked b.pages sizes.size b.count number left → named_behind b.pages number left ≡ 0 → length left ≡ suc many
      → Giving sizes a chain trunks (next_page (b.pages number)) many c
  further number many b c rest [] least within free releases turns linked ends long = absurd (omega arith)
  further number many b c rest (x ∷ xs) least within free releases turns linked ends long =
      let within_b = Turns-within sizes a b chain (x ∷ xs) trunks rest within turns in
      let releases_x : Releases sizes x b c = subst (λ (n : ℕ). Releases sizes n b c) linked.0 releases in
      let r = releases_x rest (turns.freelist free) (omega (arith, within_b x, due-most sizes.size b.count x, hit-itself x)) in
      let step = Turns-wide sizes b c (x ∷ []) [] (x ∷ xs) xs rest r.0 (λ n. times n xs) (λ n. omega arith) (λ n. omega arith) r.1 in
      let keeps : Keeps xs b c = Turns-keeps sizes b c (x ∷ []) [] rest r.0 xs (λ n. omega (arith, within_b n)) r.1 in
      let bytes = length xs * (sizes.usable - 4) in
      let is : IsChain b.pages sizes.size sizes.usable b.count (next_page (b.pages x)) bytes xs =
      record { linked = linked.2; ends = subst (λ (n : ℕ). named_behind b.pages (next_page (b.pages x)) xs ≡ 0) linked.0 ends; many = sym (pages_for-whole sizes.usable (length xs) least) } in
      let kept = chain-kept sizes b c (next_page (b.pages x)) bytes xs keeps is in
      record {
        rest = r.0;
        left = xs;
        turns = Turns-then sizes a b c chain (x ∷ xs) xs trunks rest r.0 within turns step;
        linked = subst⁻¹ (λ (n : ℕ). AreLinked c.pages sizes.size c.count (next_page (b.pages n)) xs) linked.0 kept.linked;
        ends = subst⁻¹ (λ (n : ℕ). named_behind c.pages (next_page (b.pages n)) xs ≡ 0) linked.0 kept.ends;
        long = omega arith;
      }

  -- one page more
  pub one-given : (number next many : ℕ) (b c : Paged) → 480 ≤ sizes.usable → Within sizes a chain trunks → IsFree sizes a trunks → next ≡ next_page (b.pages number) → Releases sizes number b c
      → Giving sizes a chain trunks number (suc many) b → Giving sizes a chain trunks next many c
  one-given number next many b c least within free is releases g =
      subst⁻¹ (λ (n : ℕ). Giving sizes a chain trunks n many c) is (further number many b c g.rest g.left least within free releases g.turns g.linked g.ends g.long)

-- where pages are left, the first of them is in range
begins : (b : Paged) (size number : ℕ) (left : List ℕ) → AreLinked b.pages size b.count number left → 0 < length left → IsInRange size b.count number
begins b size number [] linked some = absurd (omega arith)
begins b size number (x ∷ xs) linked some = subst⁻¹ (IsInRange size b.count) linked.0 linked.1

pub given-in_range : (sizes : Sizes) (a : Paged) (chain : List ℕ) (trunks : List Trunk) (number many : ℕ) (b : Paged) → Giving sizes a chain trunks number many b → 0 < many → IsInRange sizes.size b.count number
given-in_range sizes a chain trunks number many b g some = begins b sizes.size number g.left g.linked (omega (arith, g.long))

-- behind the last of them stands 0
pub given-ends : (sizes : Sizes) (a : Paged) (chain : List ℕ) (trunks : List Trunk) (number : ℕ) (b : Paged) → Giving sizes a chain trunks number 0 b → number ≡ 0
given-ends sizes a chain trunks number b g = subst (λ (left : List ℕ). named_behind b.pages number left ≡ 0) (nil_from_length g.left g.long) g.ends

-- the same of whatever chain stood there
abbrev pub GivingAny : Sizes → ℕ → ℕ → ℕ → ℕ → Paged → Paged → Type 0
GivingAny sizes first bytes number many a b =
    (chain : List ℕ) (trunks : List Trunk) → IsChain a.pages sizes.size sizes.usable a.count first bytes chain → IsFree sizes a trunks → Within sizes a chain trunks
    → Giving sizes a chain trunks number many b
