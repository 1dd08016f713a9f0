-- The freelist is found without a torn trunk exactly where it is one: crates above cite these facts in their proofs.
use Rattle.std.proofs.Common.{◌≡◌, ◌≢◌, ℕ, zero, suc, ◌+◌, ◌<◌, ◌≤◌, ◌==◌, ◌⊎◌, nat_lt, Bool, true, false, List, [], ◌∷◌, ◌++◌, length, map, if◌then◌else◌, get_or, refl, sym, ap, ap₂, ◌∙◌, subst, inl, inr, arith, length-append}
use Rattle.std.proofs.Math.Path.{subst⁻¹}
use Rattle.std.specs.Prelude.{filter_map}
use Rattle.std.specs.List.{AllByRecursion, range_with_len}
use Rattle.std.proofs.lemmas.Bool.{eq-eqb, eqb-true}
use Rattle.std.proofs.lemmas.Bool.Decides.{nat_tests}
use Rattle.std.proofs.lemmas.List.{length-map, get_or-map, append-nil, map-append, ext_get_or}
use Rattle.std.proofs.lemmas.List.FromFn.{length-map-range_with_len, get_or-map-range_with_len}
use Rattle.std.proofs.lemmas.List.Elements.{filter_map-append}
use Rattle.format_spec.specs.Header.{freelist_trunk, freelist_pages}
use Rattle.page_spec.specs.Pages.{next_page}
use Rattle.page_spec.specs.Counts.{times}
use Rattle.page_spec.specs.CountsLaws.{times-all, once-distinct, few-once}
use Rattle.page_spec.specs.Freelists.{Trunk, IsTrunk, AreTrunks, free_pages, trunk_limit, leaf_count, leaf_at}
use Rattle.page_spec.specs.FreelistsLaws.{free_pages-few}
use Rattle.tree_spec.specs.Standing.{Sizes, Paged, IsNumber}
use Rattle.tree_spec.specs.Worlds.{IsFree}
use Rattle.tree_spec.specs.WorldsLaws.{all-front, all-back, all-join}
use Rattle.database_spec.specs.ListsLaws.{all-from}
use Rattle.database_spec.specs.ItemsLaws.{decide, true-false}
use Rattle.database_spec.specs.FileFindings.{Found, InTree, Frees, Tears, Counts, Needs, Compares, is_number, leaf_found, leaves_found, trunks_found, freelist_found}
use Rattle.database_spec.specs.FileFaults.{page_found, free_page}
use Rattle.prepared_laws.specs.SortsLaws.{on-if}
use Rattle.database_laws.specs.RightFindings.{AreRight}
use Rattle.database_laws.specs.RightFindingsLaws.{numbers_in, right-front, right-back}

-- what holds of either of two that a test chooses
on-test : {A : Type 0} (Q : A → Type 0) (t : Bool) (a b : A) → (t ≡ true → Q a) → (t ≡ false → Q b) → Q (elim t as (λ _. A) [ true ↦ a | false ↦ b ])
on-test Q true a b p q = p refl
on-test Q false a b p q = q refl

-- it is not that a wrong number stands in a page of the freelist
abbrev pub NotTorn : Found → Type 0
NotTorn (InTree subject finding) = Unit {0}
NotTorn (Frees page) = Unit {0}
NotTorn (Tears page) = ⊥
NotTorn (Counts pages) = Unit {0}
NotTorn (Needs page) = Unit {0}
NotTorn (Compares index rows members) = Unit {0}

pub right-not_torn : (before found : List Found) → AreRight before found → AllByRecursion NotTorn found
right-not_torn before [] right = tt
right-not_torn before (InTree subject finding ∷ found) right = (tt, right-not_torn (before ++ InTree subject finding ∷ []) found right.1)
right-not_torn before (Frees page ∷ found) right = (tt, right-not_torn (before ++ Frees page ∷ []) found right.1)
right-not_torn before (Tears page ∷ found) right = absurd right.0
right-not_torn before (Counts pages ∷ found) right = (tt, right-not_torn (before ++ Counts pages ∷ []) found right.1)
right-not_torn before (Needs page ∷ found) right = (tt, right-not_torn (before ++ Needs page ∷ []) found right.1)
right-not_torn before (Compares index rows members ∷ found) right = (tt, right-not_torn (before ++ Compares index rows members ∷ []) found right.1)

pub frees-free : (numbers : List ℕ) → filter_map free_page (map Frees numbers) ≡ numbers
frees-free [] = refl
frees-free (n ∷ numbers) = ap (λ ns. n ∷ ns) (frees-free numbers)

pub frees-numbers : (numbers : List ℕ) → numbers_in (map Frees numbers) ≡ numbers
frees-numbers [] = refl
frees-numbers (n ∷ numbers) = ap (λ ns. n ∷ ns) (frees-numbers numbers)

module _ (sizes : Sizes) (base : Paged) where
  pub number-in : (number : ℕ) → is_number sizes base number ≡ true → IsNumber sizes base number
  number-in number e = record { behind_first = grind (arith, nat_tests, e); within = grind (arith, nat_tests, e); not_lock_byte = λ lock. grind (arith, nat_tests, e, lock) }

  pub number-is : (number : ℕ) → IsNumber sizes base number → is_number sizes base number ≡ true
  number-is number is = grind (arith, nat_tests, is.behind_first, is.within, is.not_lock_byte)

  -- a page of the freelist is one that a link may name
  abbrev FreesNumber : Found → Type 0
  FreesNumber (InTree subject finding) = ⊥
  FreesNumber (Frees page) = IsNumber sizes base page
  FreesNumber (Tears page) = Unit {0}
  FreesNumber (Counts pages) = Unit {0}
  FreesNumber (Needs page) = Unit {0}
  FreesNumber (Compares index rows members) = Unit {0}

  leaf-number : (trunk at : ℕ) → FreesNumber (leaf_found sizes base trunk at)
  leaf-number trunk at =
      let leaf = leaf_at (base.pages trunk) at in
      on-if FreesNumber (is_number sizes base leaf) (Frees leaf) (Tears trunk) (number-in leaf) (λ e. tt)

  leaves-number : (trunk : ℕ) (places : List ℕ) → AllByRecursion FreesNumber (map (leaf_found sizes base trunk) places)
  leaves-number trunk [] = tt
  leaves-number trunk (at ∷ places) = (leaf-number trunk at, leaves-number trunk places)

  -- what is found behind the number of a trunk
  abbrev behind_count : ℕ → ℕ → List Found
  behind_count left number = elim (nat_lt (trunk_limit sizes.usable) (leaf_count (base.pages number))) as (λ _. List Found) [
    | true ↦ Tears number ∷ []
    | false ↦ leaves_found sizes base number ++ trunks_found sizes base left number (next_page (base.pages number))
  ]

  abbrev behind_number : ℕ → ℕ → ℕ → List Found
  behind_number left holder number = elim (is_number sizes base number) as (λ _. List Found) [ false ↦ Tears holder ∷ [] | true ↦ Frees number ∷ behind_count left number ]

  -- three tests decide what is found of a trunk
  pub on-trunk : (Q : List Found → Type 0) (left holder number : ℕ) → (number ≡ 0 → Q []) → (is_number sizes base number ≡ false → number ≢ 0 → Q (Tears holder ∷ []))
      → (IsNumber sizes base number → trunk_limit sizes.usable < leaf_count (base.pages number) → Q (Frees number ∷ (Tears number ∷ [])))
      → (IsNumber sizes base number → leaf_count (base.pages number) ≤ trunk_limit sizes.usable
      → Q (Frees number ∷ (leaves_found sizes base number ++ trunks_found sizes base left number (next_page (base.pages number)))))
      → Q (trunks_found sizes base (suc left) holder number)
  on-trunk Q left holder number ends out many goes =
      on-test Q (number == 0) [] (behind_number left holder number) (λ e. ends (eqb-true number 0 e))
      (λ e.
      on-test Q (is_number sizes base number) (Frees number ∷ behind_count left number) (Tears holder ∷ [])
      (λ is.
      on-test (λ (found : List Found). Q (Frees number ∷ found)) (nat_lt (trunk_limit sizes.usable) (leaf_count (base.pages number))) (Tears number ∷ [])
      (leaves_found sizes base number ++ trunks_found sizes base left number (next_page (base.pages number)))
      (λ above. many (number-in number is) (grind (arith, nat_tests, above))) (λ below. goes (number-in number is) (grind (arith, nat_tests, below))))
      (λ not_number. out not_number (λ none. true-false (number == 0) (eq-eqb number 0 none) e)))

  -- what is found of a trunk, by what its number and its page say
  pub trunks-end : (left holder number : ℕ) → number ≡ 0 → trunks_found sizes base (suc left) holder number ≡ []
  trunks-end left holder number none =
      on-trunk (λ (found : List Found). found ≡ []) left holder number (λ ends. refl) (λ out apart. absurd (apart none)) (λ is many. absurd (omega (arith, is.behind_first, none)))
      (λ is few. absurd (omega (arith, is.behind_first, none)))

  pub trunk-out : (left holder number : ℕ) → number ≢ 0 → ¬ IsNumber sizes base number → trunks_found sizes base (suc left) holder number ≡ Tears holder ∷ []
  trunk-out left holder number some out =
      on-trunk (λ (found : List Found). found ≡ Tears holder ∷ []) left holder number (λ ends. absurd (some ends)) (λ not_number apart. refl) (λ is many. absurd (out is)) (λ is few. absurd (out is))

  pub trunk-many : (left holder number : ℕ) → IsNumber sizes base number → trunk_limit sizes.usable < leaf_count (base.pages number)
      → trunks_found sizes base (suc left) holder number ≡ Frees number ∷ (Tears number ∷ [])
  trunk-many left holder number own above =
      on-trunk (λ (found : List Found). found ≡ Frees number ∷ (Tears number ∷ [])) left holder number (λ ends. absurd (omega (arith, ends, own.behind_first)))
      (λ out apart. absurd (true-false (is_number sizes base number) (number-is number own) out)) (λ is many. refl) (λ is few. absurd (omega (arith, few, above)))

  pub trunk-goes_on : (left holder number : ℕ) → IsNumber sizes base number → leaf_count (base.pages number) ≤ trunk_limit sizes.usable
      → trunks_found sizes base (suc left) holder number ≡ (Frees number ∷ leaves_found sizes base number) ++ trunks_found sizes base left number (next_page (base.pages number))
  trunk-goes_on left holder number own below =
      let all = (Frees number ∷ leaves_found sizes base number) ++ trunks_found sizes base left number (next_page (base.pages number)) in
      on-trunk (λ (found : List Found). found ≡ all) left holder number (λ ends. absurd (omega (arith, ends, own.behind_first)))
      (λ out apart. absurd (true-false (is_number sizes base number) (number-is number own) out)) (λ is many. absurd (omega (arith, many, below))) (λ is few. refl)

  trunks-number : (left holder number : ℕ) → AllByRecursion FreesNumber (trunks_found sizes base left holder number)
  trunks-number zero holder number = tt
  trunks-number (suc left) holder number =
      on-trunk (AllByRecursion FreesNumber) left holder number (λ e. tt) (λ out apart. (tt, tt)) (λ is many. (is, (tt, tt)))
      (λ is few. (
        is,
        all-join FreesNumber (leaves_found sizes base number) (trunks_found sizes base left number (next_page (base.pages number)))
            (leaves-number number (range_with_len 0 (leaf_count (base.pages number)))) (trunks-number left number (next_page (base.pages number))),
      ))

  numbers-all : (found : List Found) → AllByRecursion FreesNumber found → AllByRecursion (IsNumber sizes base) (numbers_in found)
  numbers-all [] all = tt
  numbers-all (InTree subject finding ∷ found) all = absurd all.0
  numbers-all (Frees page ∷ found) all = (all.0, numbers-all found all.1)
  numbers-all (Tears page ∷ found) all = numbers-all found all.1
  numbers-all (Counts pages ∷ found) all = numbers-all found all.1
  numbers-all (Needs page ∷ found) all = numbers-all found all.1
  numbers-all (Compares index rows members ∷ found) all = numbers-all found all.1

  -- trunks that were found
  record FoundTrunks (number : ℕ) (found : List Found) : Type 0 where
    trunks : List Trunk
    are : AreTrunks base.pages sizes.size sizes.usable base.count number trunks
    found_are : found ≡ map Frees (free_pages trunks)

  abbrev places : ℕ → List ℕ
  places number = range_with_len 0 (leaf_count (base.pages number))

  abbrev leaves : ℕ → List ℕ → List ℕ
  leaves number ats = map (leaf_at (base.pages number)) ats

  leaf-right : (trunk at : ℕ) → NotTorn (leaf_found sizes base trunk at) → (leaf_found sizes base trunk at ≡ Frees (leaf_at (base.pages trunk) at)) × IsNumber sizes base (leaf_at (base.pages trunk) at)
  leaf-right trunk at right =
      let leaf = leaf_at (base.pages trunk) at in
      let as_test = λ (t : Bool). if t then Frees leaf else Tears trunk in
      elim (decide (is_number sizes base leaf)) [
        | inl is ↦ (ap as_test is, number-in leaf is)
        | inr out ↦ absurd (subst NotTorn (ap as_test out) right)
      ]

  pub leaves-right : (trunk : ℕ) (ats : List ℕ) → AllByRecursion NotTorn (map (leaf_found sizes base trunk) ats)
      → (map (leaf_found sizes base trunk) ats ≡ map Frees (leaves trunk ats)) × AllByRecursion (IsNumber sizes base) (leaves trunk ats)
  leaves-right trunk [] right = (refl, tt)
  leaves-right trunk (at ∷ ats) right =
      let one = leaf-right trunk at right.0 in
      let rest = leaves-right trunk ats right.1 in
      (ap₂ (λ (f : Found) (fs : List Found). f ∷ fs) one.0 rest.0, (one.1, rest.1))

  abbrev trunk_at : ℕ → Trunk
  trunk_at number = record { page = number; leaves = leaves number (places number) }

  trunk-is : (number : ℕ) → IsNumber sizes base number → leaf_count (base.pages number) ≤ trunk_limit sizes.usable → AllByRecursion (IsNumber sizes base) (leaves number (places number))
      → IsTrunk base.pages sizes.size sizes.usable base.count (trunk_at number)
  trunk-is number is few named =
      let count = leaf_count (base.pages number) in
      let many : length (leaves number (places number)) ≡ count = length-map-range_with_len (leaf_at (base.pages number)) 0 count in
      record {
        in_range = is;
        counts = sym many;
        few = omega (arith, many, few);
        names = λ k low. sym (get_or-map-range_with_len (leaf_at (base.pages number)) 0 count k k 0 (omega (arith, low, many)) (omega arith));
        leaves_in_range = all-from (IsNumber sizes base) (leaves number (places number)) named;
      }

  trunk-behind : (left number : ℕ) (found : List Found) → IsNumber sizes base number → leaf_count (base.pages number) ≤ trunk_limit sizes.usable → AllByRecursion NotTorn (leaves_found sizes base number)
      → FoundTrunks (next_page (base.pages number)) found ⊎ (left ≤ length (numbers_in found))
      → FoundTrunks number (Frees number ∷ (leaves_found sizes base number ++ found)) ⊎ (suc left ≤ length (numbers_in (Frees number ∷ (leaves_found sizes base number ++ found))))
  trunk-behind left number found is few right (inl rest) =
      let own = leaves-right number (places number) right in
      let all = leaves number (places number) in
      inl (record {
        trunks = trunk_at number ∷ rest.trunks;
        are = (refl, trunk-is number is few own.1, rest.are);
        found_are = ap (λ (fs : List Found). Frees number ∷ fs) (ap₂ (λ (x y : List Found). x ++ y) own.0 rest.found_are ∙ sym (map-append Frees all (free_pages rest.trunks)));
      })
  trunk-behind left number found is few right (inr more) =
      let own = leaves_found sizes base number in
      let both : length (numbers_in (own ++ found)) ≡ length (numbers_in own) + length (numbers_in found) =
      ap (λ (ns : List ℕ). length ns) (filter_map-append page_found own found) ∙ length-append (numbers_in own) (numbers_in found) in
      inr (omega (arith, both, more))

  -- what is found without a torn trunk are trunks, or no fewer pages than were looked for
  trunks-of : (left holder number : ℕ) → AllByRecursion NotTorn (trunks_found sizes base left holder number)
      → FoundTrunks number (trunks_found sizes base left holder number) ⊎ (left ≤ length (numbers_in (trunks_found sizes base left holder number)))
  trunks-of zero holder number right = inr (omega arith)
  trunks-of (suc left) holder number right =
      on-trunk (λ (found : List Found). AllByRecursion NotTorn found → FoundTrunks number found ⊎ (suc left ≤ length (numbers_in found))) left holder number
      (λ ends torn. inl (record { trunks = []; are = ends; found_are = refl })) (λ out apart torn. absurd torn.0) (λ is many torn. absurd torn.1.0)
      (λ is few torn.
      let next = next_page (base.pages number) in
      let own = leaves_found sizes base number in
      let rest = trunks_found sizes base left number next in
      trunk-behind left number rest is few (all-front NotTorn own rest torn.1) (trunks-of left number next (all-back NotTorn own rest torn.1))) right

  abbrev all_trunks : List Found
  all_trunks = trunks_found sizes base (suc base.count) 1 (freelist_trunk (base.pages 1))

  -- the freelist, as it was found
  pub record FoundFreelist : Type 0 where
    pub trunks : List Trunk
    pub is : IsFree sizes base trunks
    pub numbers_are : numbers_in (freelist_found sizes base) ≡ free_pages trunks

  few-trunks : ((n : ℕ) → times n (numbers_in all_trunks) ≤ 1) → length (numbers_in all_trunks) ≤ base.count
  few-trunks once =
      let all = numbers-all all_trunks (trunks-number (suc base.count) 1 (freelist_trunk (base.pages 1))) in
      few-once (numbers_in all_trunks) base.count once
      (λ n some. let in_range = times-all (IsNumber sizes base) n (numbers_in all_trunks) all some in (omega (arith, in_range.behind_first), in_range.within))

  counted-numbers : numbers_in (freelist_found sizes base) ≡ numbers_in all_trunks
  counted-numbers = filter_map-append page_found all_trunks (Counts (freelist_pages (base.pages 1)) ∷ []) ∙ append-nil (numbers_in all_trunks)

  -- where nothing of it is wrong, and no page of it is found twice, it is one
  pub freelist-of : (before : List Found) → filter_map free_page before ≡ [] → AreRight before (freelist_found sizes base) → ((n : ℕ) → times n (numbers_in (freelist_found sizes base)) ≤ 1) → FoundFreelist
  freelist-of before none right once =
      let counted = freelist_pages (base.pages 1) in
      let each : (n : ℕ) → times n (numbers_in all_trunks) ≤ 1 = λ n. subst (λ (ns : List ℕ). times n ns ≤ 1) counted-numbers (once n) in
      let torn = right-not_torn before all_trunks (right-front before all_trunks (Counts counted ∷ []) right) in
      let many = (right-back before all_trunks (Counts counted ∷ []) right).0 in
      elim (trunks-of (suc base.count) 1 (freelist_trunk (base.pages 1)) torn) [
        | inl found ↦
            let free = free_pages found.trunks in
            let numbers : numbers_in all_trunks ≡ free = ap numbers_in found.found_are ∙ frees-numbers free in
            let freed : filter_map free_page (before ++ all_trunks) ≡ free =
            filter_map-append free_page before all_trunks ∙ ap₂ (λ (x y : List ℕ). x ++ y) none (ap (filter_map free_page) found.found_are ∙ frees-free free) in
            record {
              trunks = found.trunks;
              is = record {
                named = found.are;
                many = sym many ∙ ap (λ (ns : List ℕ). length ns) freed;
                differ = once-distinct free (λ n. subst (λ (ns : List ℕ). times n ns ≤ 1) numbers (each n));
              };
              numbers_are = counted-numbers ∙ numbers;
            }
        | inr more ↦ absurd (omega (arith, more, few-trunks each))
      ]

  -- The other way round.

  leaves-found : (trunk : Trunk) → IsTrunk base.pages sizes.size sizes.usable base.count trunk → leaves_found sizes base trunk.page ≡ map Frees trunk.leaves
  leaves-found trunk is =
      let page = trunk.page in
      let count = leaf_count (base.pages page) in
      let long : length (leaves_found sizes base page) ≡ count = length-map-range_with_len (leaf_found sizes base page) 0 count in
      let other : length (map Frees trunk.leaves) ≡ length trunk.leaves = length-map trunk.leaves Frees in
      ext_get_or (Tears page) (leaves_found sizes base page) (map Frees trunk.leaves) (long ∙ is.counts ∙ sym other)
      (λ k low.
      let within : k < length trunk.leaves = omega (arith, low, long, is.counts) in
      let leaf = leaf_at (base.pages page) k in
      let named : leaf ≡ get_or trunk.leaves k 0 = is.names k within in
      let number : is_number sizes base leaf ≡ true = number-is leaf (subst⁻¹ (IsNumber sizes base) named (is.leaves_in_range k 0 within)) in
      get_or-map-range_with_len (leaf_found sizes base page) 0 count k k (Tears page) (omega (arith, low, long)) (omega arith)
      ∙ ap (λ (t : Bool). if t then Frees leaf else Tears page) number ∙ ap Frees named ∙ sym (get_or-map Frees trunk.leaves k 0 (Tears page) within))

  trunks-found : (trunks : List Trunk) (left holder number : ℕ) → length trunks < left → AreTrunks base.pages sizes.size sizes.usable base.count number trunks
      → trunks_found sizes base left holder number ≡ map Frees (free_pages trunks)
  trunks-found trunks zero holder number deep are = absurd (omega (arith, deep))
  trunks-found [] (suc left) holder number deep are =
      on-trunk (λ (found : List Found). found ≡ []) left holder number (λ ends. refl) (λ out apart. absurd (apart are))
      (λ is many. absurd (omega (arith, is.behind_first, are))) (λ is few. absurd (omega (arith, is.behind_first, are)))
  trunks-found (trunk ∷ trunks) (suc left) holder number deep are =
      let own = are.1 in
      let here : number ≡ trunk.page = are.0 in
      on-trunk (λ (found : List Found). found ≡ map Frees (free_pages (trunk ∷ trunks))) left holder number (λ ends. absurd (omega (arith, ends, here, own.in_range.behind_first)))
      (λ out apart. absurd (true-false (is_number sizes base number) (number-is number (subst⁻¹ (IsNumber sizes base) here own.in_range)) out))
      (λ is many. absurd (omega (arith, ap (λ (n : ℕ). leaf_count (base.pages n)) here, own.counts, own.few, many)))
      (λ is few.
      let rest = trunks-found trunks left number (next_page (base.pages number)) (omega (arith, deep))
      (subst⁻¹ (λ (n : ℕ). AreTrunks base.pages sizes.size sizes.usable base.count (next_page (base.pages n)) trunks) here are.2) in
      let leaf_pages = ap (leaves_found sizes base) here ∙ leaves-found trunk own in
      ap₂ (λ (f : Found) (fs : List Found). f ∷ fs) (ap Frees here) (ap₂ (λ (x y : List Found). x ++ y) leaf_pages rest ∙ sym (map-append Frees trunk.leaves (free_pages trunks))))

  trunks-few : (trunks : List Trunk) → length trunks ≤ length (free_pages trunks)
  trunks-few [] = omega arith
  trunks-few (trunk ∷ trunks) = omega (arith, trunks-few trunks, length-append trunk.leaves (free_pages trunks))

  -- of a freelist the free pages are found, and how many they are
  pub freelist-found : (trunks : List Trunk) → IsFree sizes base trunks → freelist_found sizes base ≡ map Frees (free_pages trunks) ++ Counts (length (free_pages trunks)) ∷ []
  freelist-found trunks is =
      let few = free_pages-few base.pages sizes.size sizes.usable base.count trunks is in
      ap₂ (λ (x : List Found) (n : ℕ). x ++ Counts n ∷ [])
      (trunks-found trunks (suc base.count) 1 (freelist_trunk (base.pages 1)) (omega (arith, few, trunks-few trunks)) is.named) is.many
