-- What a part of a check leaves, and what it answers: trees one behind the other, what is told of indexes beside their tables, and all of a file.
use Rattle.std.specs.Prelude.{◌≤◌, Bool, List, [], ◌∷◌, ◌++◌, map, flat_map, Option, Some, None, Result, Ok, Err}
use Rattle.std.specs.List.{AllByRecursion}
use Rattle.tree_spec.specs.Standing.{Sizes, Paged}
use Rattle.database_spec.specs.declared.fault.FileFault.TheVariants.{IndexDisagrees}
use Rattle.database_spec.specs.Walks.{IsWalk}
use Rattle.database_spec.specs.FileFindings.{Content, Rows, Entries, Anything, Subject, Walked, Found, Needs, freelist_found, pages_needed, tree_found, compared}
use Rattle.database_spec.specs.FileFaults.{FirstWrong}
use Rattle.prepared_laws.specs.TablesMadeLaws.{Apart}
use Rattle.database_laws.specs.RightFindings.{AreRight}
use Rattle.db_check.specs.declared.fault.CheckFault.{CheckFault}
use Rattle.db_check.specs.Answers.{IsRefusal}
use Rattle.db_check.specs.Passes.{IsMarked}
use Rattle.db_check.specs.TreeSteps.{IsFresh}
use Rattle.file_check.specs.declared.trees.Disagreement.{Disagreement}
use Rattle.file_check.specs.Trees.{KnownTree, AreTreeWalks}

-- behind what was found before, all this is right, or it has this first fault
abbrev pub Ends : {F : Type 0} → List Found → List Found → Result Unit (CheckFault F) → Type 0
Ends before found (Ok done) = AreRight before found
Ends before found (Err fault) = IsRefusal (FirstWrong before found) fault

-- the rows with which a tree is compared have rowids that differ
abbrev pub HasApart : Content → Type 0
HasApart Rows = Unit {0}
HasApart (Entries index rows) = Apart rows
HasApart Anything = Unit {0}

abbrev pub AreApart : List Walked → Type 0
AreApart walks = AllByRecursion (λ walked. HasApart walked.subject.content) walks

-- What is told of indexes beside their tables: nothing where all are right, else the first entry that disagrees. Of two rows with one rowid nothing is said: in trees that are right there are none.
abbrev pub Judges : List Walked → Option Disagreement → Type 0
Judges walks None = AreApart walks → (before : List Found) → AreRight before (flat_map compared walks)
Judges walks (Some told) = AreApart walks → (before : List Found) → FirstWrong before (flat_map compared walks) (IndexDisagrees told.index.now.name told.rowid)

-- what was told of them is answered
abbrev pub JudgesAs : {F : Type 0} → List Walked → Option Disagreement → Result Unit (CheckFault F) → Type 0
JudgesAs walks told result = Judges walks told → AreApart walks → (before : List Found) → Ends before (flat_map compared walks) result

-- a tree was gone through, and this is told of it; or it has this first fault
abbrev pub EndsWalk : {F : Type 0} → Walked → List Found → List Bool → Result (Option Disagreement) (CheckFault F) → Type 0
EndsWalk walked before flags (Ok told) = AreRight before (tree_found walked) × IsMarked flags (before ++ tree_found walked) × Judges (walked ∷ []) told
EndsWalk walked before flags (Err fault) = IsRefusal (FirstWrong before (tree_found walked)) fault

-- the same of trees, before which nothing was found
abbrev pub EndsWalks : {F : Type 0} → List Walked → List Bool → Result (Option Disagreement) (CheckFault F) → Type 0
EndsWalks walks flags (Ok told) = AreRight [] (flat_map tree_found walks) × IsMarked flags (flat_map tree_found walks) × Judges walks told
EndsWalks walks flags (Err fault) = IsRefusal (FirstWrong [] (flat_map tree_found walks)) fault

module _ (sizes : Sizes) (base : Paged) where
  -- A tree whose root is a page, of which nothing was found before.
  pub record IsNext (walked : Walked) (before : List Found) (flags : List Bool) : Type 0 where
    pub first : 1 ≤ walked.subject.root
    pub within : walked.subject.root ≤ base.count
    pub is_walk : IsWalk sizes base walked.subject.kind walked.subject.root walked.findings
    pub fresh : IsFresh walked.subject.root before
    pub marked : IsMarked flags before

  -- the tree of a subject that has P
  abbrev pub PassesWalk : {F : Type 0} → (Subject → Type 0) → List Bool → List Bool → Result (Option Disagreement) (CheckFault F) → Type 0
  PassesWalk P old flags result = (walked : Walked) (before : List Found) → P walked.subject → IsNext walked before old → EndsWalk walked before flags result

  -- trees by rising roots
  abbrev pub PassesWalks : {F : Type 0} → List KnownTree → List Bool → List Bool → Result (Option Disagreement) (CheckFault F) → Type 0
  PassesWalks trees old flags result = (walks : List Walked) → AreTreeWalks sizes base trees walks → IsMarked old [] → EndsWalks walks flags result

  -- all that is found in a file with these trees
  abbrev pub file_found : List Walked → List Found
  file_found walks = flat_map tree_found walks ++ (freelist_found sizes base ++ (map Needs (pages_needed sizes base) ++ flat_map compared walks))

  -- all of a file, in which rows that are compared have rowids that differ where the trees are right
  abbrev pub TellsFile : {F : Type 0} → List KnownTree → List Bool → Result Unit (CheckFault F) → Type 0
  TellsFile trees flags result = (walks : List Walked) → AreTreeWalks sizes base trees walks → IsMarked flags [] → (AreRight [] (flat_map tree_found walks) → AreApart walks) → Ends [] (file_found walks) result
