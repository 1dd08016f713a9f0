-- What a part of a check leaves, and what it answers. Behind all that was found before, each thing of the part is right, or the answer is the first that is wrong.
use Rattle.std.specs.Prelude.{◌≡◌, ◌≢◌, ℕ, suc, ◌<◌, ◌≤◌, Bool, false, List, [], ◌∷◌, ◌++◌, length, map, filter_map, slice_index_or, Result, Ok, Err}
use Rattle.refusal.specs.declared.Rule.TheVariants.{Chain}
use Rattle.page_spec.specs.Pages.{Pages, IsInRange, next_page}
use Rattle.page_spec.specs.Chains.{last_linked, IsChain, IsBroken}
use Rattle.page_spec.specs.Freelists.{trunk_limit, leaf_count}
use Rattle.tree_spec.specs.Standing.{Sizes, Paged}
use Rattle.database_spec.specs.declared.fault.FileFault.TheVariants as file
use Rattle.database_spec.specs.Walks.{Finds, Breaks}
use Rattle.database_spec.specs.FileFindings.{Subject, Found, InTree, Frees, leaves_found, trunks_found, freelist_found}
use Rattle.database_spec.specs.FileFaults.{is_found, free_page, FirstWrong}
use Rattle.database_laws.specs.RightFindings.{AreRight}
use Rattle.db_check.specs.declared.fault.CheckFault.{CheckFault}
use Rattle.db_check.specs.Answers.{IsRefusal}

-- the flag of a page is set exactly where the page was found
abbrev pub IsMarked : List Bool → List Found → Type 0
IsMarked flags found = (n : ℕ) → n < length flags → slice_index_or flags n false ≡ is_found n found

-- behind what was found before, this is found, and is right; or it has this first fault
abbrev pub Passes : {F : Type 0} → List Found → List Found → List Bool → Result Unit (CheckFault F) → Type 0
Passes before found flags (Ok done) = AreRight before found × IsMarked flags (before ++ found)
Passes before found flags (Err fault) = IsRefusal (FirstWrong before found) fault

module _ (size usable count : ℕ) where
  abbrev pub sizes : Sizes
  sizes = record { size = size; usable = usable }

  abbrev pub based : Pages → Paged
  based m = record { count = count; pages = m }

  -- a trunk and its leaf pages
  abbrev pub trunk_found : Pages → ℕ → List Found
  trunk_found m number = Frees number ∷ leaves_found sizes (based m) number

  -- the trunk was read, and it counts these leaf pages
  pub record IsPassedTrunk (m : Pages) (number : ℕ) (before : List Found) (flags : List Bool) (page : List ℕ) (leaves : ℕ) : Type 0 where
    pub page_is : page ≡ m number
    pub in_range : IsInRange size count number
    pub counts : leaves ≡ leaf_count (m number)
    pub few : leaf_count (m number) ≤ trunk_limit usable
    pub right : AreRight before (trunk_found m number)
    pub marked : IsMarked flags (before ++ trunk_found m number)

  abbrev pub EndsTrunk : {F : Type 0} → Pages → ℕ → ℕ → List Found → List Bool → List ℕ → Result ℕ (CheckFault F) → Type 0
  EndsTrunk m holder number before flags page (Ok leaves) = IsPassedTrunk m number before flags page leaves
  EndsTrunk m holder number before flags page (Err fault) = (left : ℕ) → number ≢ 0 → IsRefusal (FirstWrong before (trunks_found sizes (based m) (suc left) holder number)) fault

  abbrev pub PassesTrunk : {F : Type 0} → ℕ → ℕ → List Bool → List Bool → List ℕ → Result ℕ (CheckFault F) → Pages → Type 0
  PassesTrunk holder number old flags page result m = (before : List Found) → IsMarked old before → EndsTrunk m holder number before flags page result

  -- all trunks from a number in page 1 on, and how many free pages they are
  abbrev pub all_trunks : Pages → ℕ → List Found
  all_trunks m first = trunks_found sizes (based m) (suc count) 1 first

  abbrev pub EndsTrunks : {F : Type 0} → Pages → ℕ → List Found → List Bool → Result ℕ (CheckFault F) → Type 0
  EndsTrunks m first before flags (Ok free) = AreRight before (all_trunks m first) × IsMarked flags (before ++ all_trunks m first) × (length (filter_map free_page (all_trunks m first)) ≡ free)
  EndsTrunks m first before flags (Err fault) = IsRefusal (FirstWrong before (all_trunks m first)) fault

  abbrev pub PassesTrunks : {F : Type 0} → ℕ → List Bool → List Bool → Result ℕ (CheckFault F) → Pages → Type 0
  PassesTrunks first old flags result m = (before : List Found) → IsMarked old before → EndsTrunks m first before flags result

  -- The freelist, behind trees: nothing that was found before is a free page.
  abbrev pub PassesFreelist : {F : Type 0} → List Bool → List Bool → Result Unit (CheckFault F) → Pages → Type 0
  PassesFreelist old flags result m = (before : List Found) → filter_map free_page before ≡ [] → IsMarked old before → Passes before (freelist_found sizes (based m)) flags result

-- The pages of an overflow chain of a tree; and those that are linked, where the number behind the last is wrong.
abbrev pub chain_found : Subject → List ℕ → List Found
chain_found subject numbers = map (InTree subject) (map Finds numbers)

abbrev pub torn_found : Subject → ℕ → List ℕ → List Found
torn_found subject last numbers = map (InTree subject) (map Finds numbers ++ (Breaks last Chain ∷ []))

module _ (size count : ℕ) where
  -- a page of a chain, whose number stands in the last page before it
  abbrev pub EndsLink : {F : Type 0} → Pages → Subject → List Found → ℕ → ℕ → List Bool → Result ℕ (CheckFault F) → Type 0
  EndsLink m subject before last number flags (Ok next) =
      IsInRange size count number × (next ≡ next_page (m number)) × AreRight before (chain_found subject (number ∷ [])) × IsMarked flags (before ++ chain_found subject (number ∷ []))
  EndsLink m subject before last number flags (Err fault) =
      (IsInRange size count number → IsRefusal (FirstWrong before (chain_found subject (number ∷ []))) fault)
      × (¬ IsInRange size count number → IsRefusal (λ other. other ≡ file.Damaged last Chain) fault)

  abbrev pub PassesLink : {F : Type 0} → ℕ → ℕ → List Bool → List Bool → Result ℕ (CheckFault F) → Pages → Type 0
  PassesLink last number old flags result m = (subject : Subject) (before : List Found) → IsMarked old before → EndsLink m subject before last number flags result

module _ (size usable count : ℕ) where
  -- A chain of so many bytes: whole, or broken behind some of its pages.
  abbrev pub PassesChain : {F : Type 0} → ℕ → ℕ → ℕ → List Bool → List Bool → Result Unit (CheckFault F) → Pages → Type 0
  PassesChain holder first bytes old flags result m =
      (subject : Subject) (before : List Found) → IsMarked old before
      → ((numbers : List ℕ) → IsChain m size usable count first bytes numbers → Passes before (chain_found subject numbers) flags result)
      × ((page : ℕ) (torn : IsBroken m size usable count first bytes page) → Passes before (torn_found subject (last_linked holder torn.numbers) torn.numbers) flags result)
