-- What is found of an overflow chain.
use Rattle.std.proofs.Common.{◌≡◌, ◌≢◌, ℕ, ◌+◌, ◌<◌, ◌≤◌, ◌⊎◌, Bool, List, [], ◌∷◌, ◌++◌, length, map, Ok, Err, refl, sym, ap, ap₂, ◌∙◌, subst, inl, inr, arith, append_assoc}
use Rattle.std.proofs.Math.Path.{subst⁻¹}
use Rattle.std.proofs.lemmas.Bool.{cases_lt}
use Rattle.std.proofs.lemmas.List.{append-nil, length_push, map-append}
use Rattle.refusal.specs.declared.Rule.TheVariants as broken
use Rattle.page_spec.specs.Pages.{Pages, IsInRange, next_page}
use Rattle.page_spec.specs.Chains.{pages_for, AreLinked, named_behind, last_linked, IsChain, IsBroken}
use Rattle.page_spec.specs.ChainsLaws.{same_linked, named-in_range, linked_more, named-more, last-more}
use Rattle.database_spec.specs.declared.fault.FileFault.{FileFault}
use Rattle.database_spec.specs.declared.fault.FileFault.TheVariants as file
use Rattle.database_spec.specs.Walks.{Finding, Finds, Breaks}
use Rattle.database_spec.specs.FileFindings.{Subject, Found, InTree}
use Rattle.database_spec.specs.FileFaults.{FirstWrong}
use Rattle.database_laws.specs.RightFindings.{AreRight}
use Rattle.database_laws.specs.RightFindingsLaws.{right-join, wrong-back}
use Rattle.db_check.specs.declared.fault.CheckFault.{CheckFault}
use Rattle.db_check.specs.declared.fault.CheckFault.TheVariants.{Damaged}
use Rattle.db_check.specs.Answers.{IsRefusal}
use Rattle.db_check.specs.Passes.{IsMarked, Passes, chain_found, torn_found}
use Rattle.db_check.specs.PassesLaws.{refusal-then, passed-wrong}

chain-append : (subject : Subject) (xs ys : List ℕ) → chain_found subject (xs ++ ys) ≡ chain_found subject xs ++ chain_found subject ys
chain-append subject xs ys = ap (map (InTree subject)) (map-append Finds xs ys) ∙ map-append (InTree subject) (map Finds xs) (map Finds ys)

torn-append : (subject : Subject) (last : ℕ) (xs ys : List ℕ) → torn_found subject last (xs ++ ys) ≡ chain_found subject xs ++ torn_found subject last ys
torn-append subject last xs ys =
    let end = Breaks last broken.Chain ∷ [] in
    ap (λ (front : List Finding). map (InTree subject) (front ++ end)) (map-append Finds xs ys) ∙ ap (map (InTree subject)) (append_assoc (map Finds xs) (map Finds ys) end)
    ∙ map-append (InTree subject) (map Finds xs) (map Finds ys ++ end)

module _ (size usable count : ℕ) (m : Pages) where
  abbrev Linked : ℕ → List ℕ → Type 0
  Linked first numbers = AreLinked m size count first numbers

  -- of two lists of linked pages the longer goes on where the shorter ends
  record Behind (first : ℕ) (gone numbers : List ℕ) : Type 0 where
    number : ℕ
    rest : List ℕ
    whole : numbers ≡ gone ++ (number ∷ rest)
    named : named_behind m first gone ≡ number
    in_range : IsInRange size count number

  behind : (first : ℕ) (gone numbers : List ℕ) → Linked first gone → Linked first numbers → length gone < length numbers → Behind first gone numbers
  behind first [] [] one two less = absurd (omega (arith, less))
  behind first [] (x ∷ numbers) one two less = record { number = x; rest = numbers; whole = refl; named = two.0; in_range = two.1 }
  behind first (x ∷ gone) [] one two less = absurd (omega (arith, less))
  behind first (x ∷ gone) (y ∷ numbers) one two less =
      let same : y ≡ x = sym two.0 ∙ one.0 in
      let there = subst (λ (n : ℕ). Linked (next_page (m n)) numbers) same two.2 in
      let on = behind (next_page (m x)) gone numbers one.2 there (omega (arith, less)) in
      record { number = on.number; rest = on.rest; whole = ap₂ (λ (n : ℕ) (ns : List ℕ). n ∷ ns) same on.whole; named = on.named; in_range = on.in_range }

  -- what was gone through of a chain
  pub record HasGone (holder first : ℕ) (subject : Subject) (before : List Found) (flags : List Bool) (done last number : ℕ) : Type 0 where
    pub gone : List ℕ
    pub linked : Linked first gone
    pub names : named_behind m first gone ≡ number
    pub ends : last_linked holder gone ≡ last
    pub long : length gone ≡ done
    pub right : AreRight before (chain_found subject gone)
    pub marked : IsMarked flags (before ++ chain_found subject gone)

  pub gone-none : (holder first : ℕ) (subject : Subject) (before : List Found) (flags : List Bool) → IsMarked flags before → HasGone holder first subject before flags 0 holder first
  gone-none holder first subject before flags marked = record { gone = []; linked = tt; names = refl; ends = refl; long = refl; right = tt; marked = subst⁻¹ (IsMarked flags) (append-nil before) marked }

  module _ (holder first bytes done last number : ℕ) (subject : Subject) (before : List Found) (flags : List Bool) (has : HasGone holder first subject before flags done last number) where
    abbrev gone_found : List Found
    gone_found = chain_found subject has.gone

    abbrev Torn : ℕ → Type 0
    Torn page = IsBroken m size usable count first bytes page

    abbrev found_torn : {page : ℕ} → Torn page → List Found
    found_torn torn = torn_found subject (last_linked holder torn.numbers) torn.numbers

    -- one page more
    pub gone-more : (now : List Bool) (next : ℕ) → IsInRange size count number × (next ≡ next_page (m number)) × AreRight (before ++ gone_found) (chain_found subject (number ∷ []))
        × IsMarked now ((before ++ gone_found) ++ chain_found subject (number ∷ [])) → HasGone holder first subject before now (done + 1) number next
    gone-more now next one =
        let list = chain-append subject has.gone (number ∷ []) in
        record {
          gone = has.gone ++ number ∷ [];
          linked = linked_more m size count first has.gone number has.linked has.names one.0;
          names = named-more m first has.gone number ∙ sym one.1;
          ends = last-more holder has.gone number;
          long = length_push has.gone number ∙ ap (λ (n : ℕ). n + 1) has.long;
          right = subst⁻¹ (AreRight before) list (right-join before gone_found (chain_found subject (number ∷ [])) has.right one.2);
          marked = subst⁻¹ (λ (found : List Found). IsMarked now (before ++ found)) list (subst (IsMarked now) (append_assoc before gone_found (chain_found subject (number ∷ []))) one.3);
        }

    -- a broken chain that is no longer than what was gone through is that
    torn-same : {page : ℕ} (torn : Torn page) → length torn.numbers ≤ done → done ≤ pages_for usable bytes → torn.numbers ≡ has.gone
    torn-same torn short few =
        elim (cases_lt (length torn.numbers) (length has.gone)) [
          | inl less ↦ absurd (by torn.wrong less)
          | inr not_less ↦ same_linked m size count first torn.numbers has.gone torn.linked has.linked (omega (arith, short, not_less, has.long))
        ]
      where
        by : ((length torn.numbers < pages_for usable bytes) × ¬ IsInRange size count (named_behind m first torn.numbers)) ⊎ ((length torn.numbers ≡ pages_for usable bytes) × (named_behind m first torn.numbers ≢ 0))
            → length torn.numbers < length has.gone → ⊥
        by (inl w) less = w.1 (named-in_range m size count first torn.numbers has.gone torn.linked has.linked less)
        by (inr w) less = omega (arith, w.0, less, has.long, few)

    short-torn : {page : ℕ} (torn : Torn page) → length torn.numbers ≤ pages_for usable bytes
    short-torn torn = elim torn.wrong [ inl w ↦ omega (arith, w.0) | inr w ↦ omega (arith, w.0) ]

    -- the number behind is out of range, or not 0: the chain is broken here
    broken-here : {F : Type 0} {page : ℕ} (torn : Torn page) (fault : CheckFault F) → torn.numbers ≡ has.gone → IsRefusal (λ (other : FileFault). other ≡ file.Damaged last broken.Chain) fault
        → Passes before (found_torn torn) flags (Err fault)
    broken-here torn fault same is =
        let here = last_linked holder has.gone in
        let end = InTree subject (Breaks here broken.Chain) ∷ [] in
        let list : found_torn torn ≡ gone_found ++ end =
        ap (λ (ns : List ℕ). torn_found subject (last_linked holder ns) ns) same ∙ ap (torn_found subject here) (sym (append-nil has.gone)) ∙ torn-append subject here has.gone [] in
        refusal-then (λ (other : FileFault). other ≡ file.Damaged last broken.Chain) (FirstWrong before (found_torn torn))
        (λ other e.
        subst⁻¹ (λ (found : List Found). FirstWrong before found other) list
        (wrong-back before gone_found end other has.right (inl (e ∙ ap (λ (n : ℕ). file.Damaged n broken.Chain) (sym has.ends))))) fault is

    -- a fault at the number behind
    pub chain-failed : {F : Type 0} (now : List Bool) (fault : CheckFault F) → done < pages_for usable bytes
        → (IsInRange size count number → IsRefusal (FirstWrong (before ++ gone_found) (chain_found subject (number ∷ []))) fault)
        × (¬ IsInRange size count number → IsRefusal (λ (other : FileFault). other ≡ file.Damaged last broken.Chain) fault)
        → ((numbers : List ℕ) → IsChain m size usable count first bytes numbers → Passes before (chain_found subject numbers) now (Err fault))
        × ((page : ℕ) (torn : Torn page) → Passes before (found_torn torn) now (Err fault))
    chain-failed now fault low wrong = (
      λ numbers is.
          let on = behind first has.gone numbers has.linked is.linked (omega (arith, has.long, is.many, low)) in
          let own : on.number ≡ number = sym on.named ∙ has.names in
          let list = ap (chain_found subject) on.whole ∙ chain-append subject has.gone (on.number ∷ on.rest)
          ∙ ap (λ (n : ℕ). gone_found ++ (chain_found subject (n ∷ []) ++ chain_found subject on.rest)) own in
          passed-wrong before gone_found (chain_found subject (number ∷ [])) (chain_found subject on.rest) (chain_found subject numbers) fault list has.right (wrong.0 (subst (IsInRange size count) own on.in_range)),
      λ page torn. elim (cases_lt (length has.gone) (length torn.numbers)) [
        | inl longer ↦
            let on = behind first has.gone torn.numbers has.linked torn.linked longer in
            let own : on.number ≡ number = sym on.named ∙ has.names in
            let end = last_linked holder torn.numbers in
            let list = ap (torn_found subject end) on.whole ∙ torn-append subject end has.gone (on.number ∷ on.rest)
            ∙ ap (λ (n : ℕ). gone_found ++ (chain_found subject (n ∷ []) ++ torn_found subject end on.rest)) own in
            passed-wrong before gone_found (chain_found subject (number ∷ [])) (torn_found subject end on.rest) (found_torn torn) fault list has.right (wrong.0 (subst (IsInRange size count) own on.in_range))
        | inr not_longer ↦
            let same = torn-same torn (omega (arith, not_longer, has.long)) (omega (arith, low)) in
            broken-here torn fault same (wrong.1 (out torn same torn.wrong))
      ],
    )
      where
        out : {page : ℕ} (torn : Torn page) → torn.numbers ≡ has.gone
            → ((length torn.numbers < pages_for usable bytes) × ¬ IsInRange size count (named_behind m first torn.numbers)) ⊎ ((length torn.numbers ≡ pages_for usable bytes) × (named_behind m first torn.numbers ≢ 0))
            → ¬ IsInRange size count number
        out torn same (inl w) = λ is. w.1 (subst⁻¹ (IsInRange size count) (ap (named_behind m first) same ∙ has.names) is)
        out torn same (inr w) = absurd (omega (arith, w.0, ap (λ (ns : List ℕ). length ns) same, has.long, low))

    -- behind all pages a number stands that is not 0
    pub chain-longer : (F : Type 0) → done ≡ pages_for usable bytes → number ≢ 0
        → ((numbers : List ℕ) → IsChain m size usable count first bytes numbers → Passes {F = F} before (chain_found subject numbers) flags (Err (Damaged last broken.Chain)))
        × ((page : ℕ) (torn : Torn page) → Passes {F = F} before (found_torn torn) flags (Err (Damaged last broken.Chain)))
    chain-longer F all some = (
      λ numbers is.
          let same = same_linked m size count first has.gone numbers has.linked is.linked (omega (arith, has.long, all, is.many)) in
          absurd (some (sym has.names ∙ ap (named_behind m first) same ∙ is.ends)),
      λ page torn. broken-here {F = F} torn (Damaged last broken.Chain) (torn-same torn (omega (arith, all, short-torn torn)) (omega (arith, all))) refl,
    )

    -- the chain ends there
    pub chain-ended : (F : Type 0) → done ≡ pages_for usable bytes → number ≡ 0
        → ((numbers : List ℕ) → IsChain m size usable count first bytes numbers → Passes {F = F} before (chain_found subject numbers) flags (Ok tt))
        × ((page : ℕ) (torn : Torn page) → Passes {F = F} before (found_torn torn) flags (Ok tt))
    chain-ended F all none = (
      λ numbers is.
          let same = same_linked m size count first has.gone numbers has.linked is.linked (omega (arith, has.long, all, is.many)) in
          subst (λ (ns : List ℕ). AreRight before (chain_found subject ns) × IsMarked flags (before ++ chain_found subject ns)) same (has.right, has.marked),
      λ page torn. absurd (by torn (torn-same torn (omega (arith, all, short-torn torn)) (omega (arith, all))) torn.wrong),
    )
      where
        by : {page : ℕ} (torn : Torn page) → torn.numbers ≡ has.gone
            → ((length torn.numbers < pages_for usable bytes) × ¬ IsInRange size count (named_behind m first torn.numbers)) ⊎ ((length torn.numbers ≡ pages_for usable bytes) × (named_behind m first torn.numbers ≢ 0)) → ⊥
        by torn same (inl w) = omega (arith, w.0, ap (λ (ns : List ℕ). length ns) same, has.long, all)
        by torn same (inr w) = w.1 (ap (named_behind m first) same ∙ has.names ∙ none)
