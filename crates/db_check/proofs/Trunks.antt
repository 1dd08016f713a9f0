-- What is found of trunks, and of the whole freelist.
use Rattle.std.proofs.Common.{◌≡◌, ◌≢◌, ℕ, zero, suc, ◌+◌, ◌-◌, ◌<◌, ◌≤◌, Bool, true, false, List, [], ◌∷◌, ◌++◌, length, map, Ok, Err, refl, sym, ap, ◌∙◌, subst, inl, arith, append_assoc, length-append}
use Rattle.std.proofs.Math.Path.{subst⁻¹}
use Rattle.std.specs.Prelude.{filter_map, slice_index_or, slice_set}
use Rattle.std.specs.List.{range_with_len}
use Rattle.std.proofs.lemmas.List.{append-nil}
use Rattle.std.proofs.lemmas.List.Elements.{filter_map-append}
use Rattle.std.proofs.lemmas.List.FromFn.{length-map-range_with_len}
use Rattle.refusal.specs.declared.Rule.TheVariants as broken
use Rattle.format_spec.specs.Header.{freelist_trunk, freelist_pages}
use Rattle.page_spec.specs.Pages.{Pages, IsInRange, next_page}
use Rattle.page_spec.specs.Freelists.{trunk_limit, leaf_count, leaf_at}
use Rattle.tree_spec.specs.Standing.{Sizes, Paged}
use Rattle.database_spec.specs.declared.fault.FileFault.TheVariants as file
use Rattle.database_spec.specs.FileFindings.{Found, Frees, Counts, leaf_found, leaves_found, trunks_found, freelist_found}
use Rattle.database_spec.specs.FileFaults.{is_found, free_page, FirstWrong}
use Rattle.database_laws.specs.RightFindings.{AreRight}
use Rattle.database_laws.specs.RightFindingsLaws.{right-join, wrong-front, wrong-back, found-append}
use Rattle.database_laws.specs.FoundFreelistsLaws.{right-not_torn, frees-free, leaves-right, trunks-end, trunk-goes_on}
use Rattle.db_check.specs.declared.fault.CheckFault.{CheckFault}
use Rattle.db_check.specs.declared.fault.CheckFault.TheVariants.{Damaged}
use Rattle.db_check.specs.Answers.{IsRefusal}
use Rattle.db_check.specs.Passes.{IsMarked, Passes, sizes, based, trunk_found, IsPassedTrunk, EndsTrunk, all_trunks, EndsTrunks}
use Rattle.db_check.specs.PassesLaws.{refusal-then, passed-wrong}
use Rattle.db_check.proofs.Parts.{or-none, marked-free}

-- a page that is found free
abbrev pub freed : ℕ → List Found
freed number = Frees number ∷ []

module _ (size usable count : ℕ) (m : Pages) where
  abbrev own : Sizes
  own = sizes size usable count

  abbrev base : Paged
  base = based size usable count m

  abbrev trunks : ℕ → ℕ → ℕ → List Found
  trunks = trunks_found own base

  pub wrong-leaf : {F : Type 0} (holder number : ℕ) (before : List Found) (flags : List Bool) (page : List ℕ) (fault : CheckFault F) → IsInRange size count number → is_found number before ≡ false
      → leaf_count (m number) ≤ trunk_limit usable → IsRefusal (FirstWrong (before ++ Frees number ∷ []) (leaves_found own base number)) fault
      → EndsTrunk size usable count {F = F} m holder number before flags page (Err fault)
  wrong-leaf holder number before flags page fault is new below wrong left some =
      passed-wrong before (Frees number ∷ []) (leaves_found own base number) (trunks left number (next_page (m number))) (trunks (suc left) holder number) fault
      (trunk-goes_on own base left holder number is below) (new, tt) wrong

  pub trunk-passed : (F : Type 0) (holder number : ℕ) (before : List Found) (flags : List Bool) (page : List ℕ) (leaves : ℕ) → page ≡ m number → IsInRange size count number → leaves ≡ leaf_count (m number)
      → leaves ≤ trunk_limit usable → is_found number before ≡ false → AreRight (before ++ Frees number ∷ []) (leaves_found own base number)
      → IsMarked flags ((before ++ Frees number ∷ []) ++ leaves_found own base number) → EndsTrunk size usable count {F = F} m holder number before flags page (Ok leaves)
  trunk-passed F holder number before flags page leaves same is counts few new right marked = record {
    page_is = same;
    in_range = is;
    counts = counts;
    few = omega (arith, counts, few);
    right = (new, right);
    marked = subst (IsMarked flags) (append_assoc before (Frees number ∷ []) (leaves_found own base number)) marked;
  }

  -- The end of a trunk, over what its reader knows.
  module _ (holder number leaves : ℕ) (before : List Found) (old set flags : List Bool) (page : List ℕ) (page_is : page ≡ m number) (in_range : IsInRange size count number) (counts : leaves ≡ leaf_count page)
      (few : leaves ≤ trunk_limit usable) (marked : IsMarked old before) (low : number < length old) (fresh : slice_index_or old number false ≡ false) (set_is : set ≡ slice_set old number true) where
    abbrev pub here : List Found
    here = before ++ Frees number ∷ []

    abbrev pub own_leaves : List Found
    own_leaves = map (leaf_found own base number) (range_with_len 0 leaves)

    is-new : is_found number before ≡ false
    is-new = sym (marked number low) ∙ fresh

    pub marked-here : IsMarked set here
    marked-here = subst⁻¹ (λ (list : List Bool). IsMarked list here) set_is (marked-free old before number low marked)

    counts-all : leaves ≡ leaf_count (m number)
    counts-all = counts ∙ ap leaf_count page_is

    leaves-are : own_leaves ≡ leaves_found own base number
    leaves-are = ap (λ (n : ℕ). map (leaf_found own base number) (range_with_len 0 n)) counts-all

    pub trunk-failed : {F : Type 0} (fault : CheckFault F) → IsRefusal (FirstWrong here own_leaves) fault → EndsTrunk size usable count m holder number before flags page (Err fault)
    trunk-failed fault wrong =
        wrong-leaf holder number before flags page fault in_range is-new (omega (arith, counts-all, few)) (subst (λ (found : List Found). IsRefusal (FirstWrong here found) fault) leaves-are wrong)

    pub trunk-done : (F : Type 0) → AreRight here own_leaves × IsMarked flags (here ++ own_leaves) → EndsTrunk size usable count {F = F} m holder number before flags page (Ok leaves)
    trunk-done F done =
        let right = subst (λ (found : List Found). AreRight here found × IsMarked flags (here ++ found)) leaves-are done in
        trunk-passed F holder number before flags page leaves page_is in_range counts-all few is-new right.0 right.1

  -- The loop over trunks: what was gone through, and that it is a front of all.
  pub record HasPassed (first : ℕ) (before : List Found) (flags : List Bool) (done holder number free : ℕ) : Type 0 where
    pub gone : List Found
    pub whole : all_trunks size usable count m first ≡ gone ++ trunks (suc count - done) holder number
    pub right : AreRight before gone
    pub marked : IsMarked flags (before ++ gone)
    pub freed : length (filter_map free_page gone) ≡ free

  pub passed-none : (first : ℕ) (before : List Found) (flags : List Bool) → IsMarked flags before → HasPassed first before flags 0 1 first 0
  passed-none first before flags marked = record {
    gone = [];
    whole = let all : suc count - 0 ≡ suc count = omega arith in ap (λ (left : ℕ). trunks left 1 first) (sym all);
    right = tt;
    marked = subst⁻¹ (IsMarked flags) (append-nil before) marked;
    freed = refl;
  }

  -- the free pages of a trunk that is right
  trunk-freed : (number : ℕ) (before : List Found) → AreRight before (trunk_found size usable count m number) → length (filter_map free_page (trunk_found size usable count m number)) ≡ leaf_count (m number) + 1
  trunk-freed number before right =
      let all = leaf_count (m number) in
      let torn = right-not_torn (before ++ Frees number ∷ []) (leaves_found own base number) right.1 in
      let are = (leaves-right own base number (range_with_len 0 all) torn).0 in
      let freed : filter_map free_page (leaves_found own base number) ≡ map (leaf_at (m number)) (range_with_len 0 all) = ap (filter_map free_page) are ∙ frees-free (map (leaf_at (m number)) (range_with_len 0 all)) in
      omega (arith, ap (λ (ns : List ℕ). length ns) freed, length-map-range_with_len (leaf_at (m number)) 0 all)

  pub passed-trunk : (first : ℕ) (before : List Found) (old flags : List Bool) (done holder number free leaves : ℕ) (page : List ℕ) (has : HasPassed first before old done holder number free) → done < suc count
      → IsPassedTrunk size usable count m number (before ++ has.gone) flags page leaves → HasPassed first before flags (done + 1) number (next_page page) (free + (leaves + 1))
  passed-trunk first before old flags done holder number free leaves page has low passed =
      let here = trunk_found size usable count m number in
      let left = suc count - (done + 1) in
      let rest = trunks left number (next_page (m number)) in
      let more : suc count - done ≡ suc left = omega (arith, low) in
      let parts : trunks (suc count - done) holder number ≡ here ++ rest = ap (λ (n : ℕ). trunks n holder number) more ∙ trunk-goes_on own base left holder number passed.in_range passed.few in
      let next : next_page (m number) ≡ next_page page = ap next_page (sym passed.page_is) in
      let whole = has.whole ∙ ap (λ (r : List Found). has.gone ++ r) parts ∙ sym (append_assoc has.gone here rest) in
      let freed : length (filter_map free_page (has.gone ++ here)) ≡ length (filter_map free_page has.gone) + length (filter_map free_page here) =
      ap (λ (ns : List ℕ). length ns) (filter_map-append free_page has.gone here) ∙ length-append (filter_map free_page has.gone) (filter_map free_page here) in
      record {
        gone = has.gone ++ here;
        whole = whole ∙ ap (λ (n : ℕ). (has.gone ++ here) ++ trunks left number n) next;
        right = right-join before has.gone here has.right passed.right;
        marked = subst (IsMarked flags) (append_assoc before has.gone here) passed.marked;
        freed = omega (arith, freed, has.freed, trunk-freed number (before ++ has.gone) passed.right, passed.counts);
      }

  pub passed-fault : {F : Type 0} (first : ℕ) (before : List Found) (old flags : List Bool) (done holder number free : ℕ) (page : List ℕ) (fault : CheckFault F) (has : HasPassed first before old done holder number free)
      → done < suc count → number ≢ 0 → EndsTrunk size usable count m holder number (before ++ has.gone) flags page (Err fault) → EndsTrunks size usable count m first before flags (Err fault)
  passed-fault first before old flags done holder number free page fault has low some ends =
      let left = suc count - (done + 1) in
      let more : suc count - done ≡ suc left = omega (arith, low) in
      let whole = has.whole ∙ ap (λ (n : ℕ). has.gone ++ trunks n holder number) more in
      refusal-then (FirstWrong (before ++ has.gone) (trunks (suc left) holder number)) (FirstWrong before (all_trunks size usable count m first))
      (λ other wrong. subst⁻¹ (λ (list : List Found). FirstWrong before list other) whole (wrong-back before has.gone (trunks (suc left) holder number) other has.right wrong)) fault (ends left some)

  pub passed-all : (F : Type 0) (first : ℕ) (before : List Found) (flags : List Bool) (done holder number free : ℕ) → HasPassed first before flags done holder number free
      → trunks (suc count - done) holder number ≡ [] → EndsTrunks size usable count {F = F} m first before flags (Ok free)
  passed-all F first before flags done holder number free has none =
      let whole : all_trunks size usable count m first ≡ has.gone = has.whole ∙ ap (λ (rest : List Found). has.gone ++ rest) none ∙ append-nil has.gone in (
        subst⁻¹ (AreRight before) whole has.right,
        subst⁻¹ (λ (found : List Found). IsMarked flags (before ++ found)) whole has.marked,
        ap (λ (found : List Found). length (filter_map free_page found)) whole ∙ has.freed,
      )

  pub passed-end : (F : Type 0) (first : ℕ) (before : List Found) (flags : List Bool) (done holder number free : ℕ) → HasPassed first before flags done holder number free → number ≡ 0
      → EndsTrunks size usable count {F = F} m first before flags (Ok free)
  passed-end F first before flags done holder number free has none =
      passed-all F first before flags done holder number free has (nothing (suc count - done) none)
    where
      nothing : (left : ℕ) → number ≡ 0 → trunks left holder number ≡ []
      nothing zero e = refl
      nothing (suc left) e = trunks-end own base left holder number e

  pub passed-out : (F : Type 0) (first : ℕ) (before : List Found) (flags : List Bool) (done holder number free : ℕ) → HasPassed first before flags done holder number free → suc count ≤ done
      → EndsTrunks size usable count {F = F} m first before flags (Ok free)
  passed-out F first before flags done holder number free has over =
      let none : suc count - done ≡ 0 = omega (arith, over) in
      passed-all F first before flags done holder number free has (ap (λ (left : ℕ). trunks left holder number) none)

  -- The freelist, by its trunks and by what page 1 counts.

  marked-counts : (flags : List Bool) (found : List Found) (pages : ℕ) → IsMarked flags found → IsMarked flags (found ++ Counts pages ∷ [])
  marked-counts flags found pages marked n low = marked n low ∙ sym (found-append n found (Counts pages ∷ []) ∙ or-none (is_found n found) false refl)

  abbrev whole_list : List Found
  whole_list = freelist_found own base

  abbrev trunks_first : List Found
  trunks_first = all_trunks size usable count m (freelist_trunk (m 1))

  count-is : (before : List Found) (free : ℕ) → filter_map free_page before ≡ [] → length (filter_map free_page trunks_first) ≡ free → length (filter_map free_page (before ++ trunks_first)) ≡ free
  count-is before free none counts =
      ap (λ (ns : List ℕ). length ns) (filter_map-append free_page before trunks_first ∙ ap (λ (ns : List ℕ). ns ++ filter_map free_page trunks_first) none) ∙ counts

  pub freelist-passed : (F : Type 0) (before : List Found) (flags : List Bool) (free : ℕ) → filter_map free_page before ≡ [] → free ≡ freelist_pages (m 1)
      → EndsTrunks size usable count {F = F} m (freelist_trunk (m 1)) before flags (Ok free) → Passes {F = F} before whole_list flags (Ok tt)
  freelist-passed F before flags free none same ends =
      let counted = freelist_pages (m 1) in (
        right-join before trunks_first (Counts counted ∷ []) ends.0 (count-is before free none ends.2 ∙ same, tt),
        subst (IsMarked flags) (append_assoc before trunks_first (Counts counted ∷ [])) (marked-counts flags (before ++ trunks_first) counted ends.1),
      )

  pub freelist-miscounted : (F : Type 0) (before : List Found) (flags : List Bool) (free : ℕ) → filter_map free_page before ≡ [] → free ≢ freelist_pages (m 1)
      → EndsTrunks size usable count {F = F} m (freelist_trunk (m 1)) before flags (Ok free) → Passes {F = F} before whole_list flags (Err (Damaged 1 broken.Count))
  freelist-miscounted F before flags free none unlike ends =
      let counted = freelist_pages (m 1) in
      wrong-back before trunks_first (Counts counted ∷ []) (file.Damaged 1 broken.Count) ends.0
      (inl (λ e. unlike (sym (count-is before free none ends.2) ∙ e), refl))

  pub freelist-wrong : {F : Type 0} (before : List Found) (old flags : List Bool) (fault : CheckFault F) → EndsTrunks size usable count m (freelist_trunk (m 1)) before old (Err fault)
      → Passes before whole_list flags (Err fault)
  freelist-wrong before old flags fault ends =
      refusal-then (FirstWrong before trunks_first) (FirstWrong before whole_list) (wrong-front before trunks_first (Counts (freelist_pages (m 1)) ∷ [])) fault ends
