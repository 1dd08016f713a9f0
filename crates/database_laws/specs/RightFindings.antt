-- What is found is right after all that was found before it: the other side of each rule of a first fault (`FileFaults`), as something that is there.
use Rattle.std.specs.Prelude.{◌≡◌, ℕ, IsTrue, IsFalse, List, [], ◌∷◌, ◌++◌, length, filter_map}
use Rattle.std.specs.List.{list_any, AllByRecursion}
use Rattle.rbu_value.specs.declared.value.Value.{Value}
use Rattle.schema_spec.specs.declared.schema.Index.{Index}
use Rattle.tree_spec.specs.Trees.{Member}
use Rattle.database_spec.specs.Walks.{Finding, Finds, Ends, Holds, Breaks, Disorders, Bares}
use Rattle.database_spec.specs.Keys.{IsBefore, IsIndexOf}
use Rattle.database_spec.specs.Databases.{IsReadable}
use Rattle.database_spec.specs.FileFindings.{Content, Rows, Entries, Anything, Subject, Found, InTree, Frees, Tears, Counts, Needs, Compares}
use Rattle.database_spec.specs.FileFaults.{is_found, free_page, ends_elsewhere, IsEntry}

-- an entry of the same tree that was found before stands before this one
abbrev pub IsAfter : ℕ → Index → List Value → Found → Type 0
IsAfter root index entry (InTree subject (Holds page member)) = subject.root ≡ root → (other : List Value) → IsEntry index member other → IsBefore index other entry
IsAfter root index entry _ = Unit {0}

abbrev pub IsRightMember : List Found → Subject → Content → Member → Type 0
IsRightMember before subject Rows member = IsReadable member
IsRightMember before subject (Entries index rows) member = (entry : List Value) × IsEntry index member entry × AllByRecursion (IsAfter subject.root index entry) before
IsRightMember before subject Anything member = Unit {0}

abbrev pub IsRightInTree : List Found → Subject → Finding → Type 0
IsRightInTree before subject (Finds page) = IsFalse (is_found page before)
IsRightInTree before subject (Ends page depth) = IsFalse (list_any (ends_elsewhere subject.root depth) before)
IsRightInTree before subject (Holds page member) = IsRightMember before subject subject.content member
IsRightInTree before subject (Breaks page rule) = ⊥
IsRightInTree before subject (Disorders page) = ⊥
IsRightInTree before subject (Bares page) = ⊥

abbrev pub IsRight : List Found → Found → Type 0
IsRight before (InTree subject finding) = IsRightInTree before subject finding
IsRight before (Frees page) = IsFalse (is_found page before)
IsRight before (Tears page) = ⊥
IsRight before (Counts pages) = length (filter_map free_page before) ≡ pages
IsRight before (Needs page) = IsTrue (is_found page before)
IsRight before (Compares index rows members) = IsIndexOf index rows members

-- each of these is right, one after the other
abbrev pub AreRight : List Found → List Found → Type 0
AreRight before [] = Unit {0}
AreRight before (one ∷ found) = IsRight before one × AreRight (before ++ one ∷ []) found
