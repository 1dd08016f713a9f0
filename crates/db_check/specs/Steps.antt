-- The steps of a walk over a tree: what is known where a step begins, and what it leaves of the findings before it.
use Rattle.std.specs.Prelude.{◌≡◌, ℕ, ◌==◌, not, Bool, false, if◌then◌else◌, List, [], ◌++◌, filter_map, Option, Some, None, Result, Ok, Err}
use Rattle.std.specs.List.{list_any}
use Rattle.rbu_value.specs.declared.value.Value.{Value}
use Rattle.tree_spec.specs.Trees.{Member}
use Rattle.database_spec.specs.Walks.{Finding, Holds}
use Rattle.database_spec.specs.Keys.{order_of}
use Rattle.database_spec.specs.FileFindings.{Content, Rows, Entries, Anything, Subject, Found, InTree}
use Rattle.database_spec.specs.FileFaults.{ends_elsewhere, FirstWrong}
use Rattle.database_laws.specs.RightFindings.{AreRight}
use Rattle.database_laws.specs.RightFilesLaws.{in_tree}
use Rattle.db_check.specs.declared.fault.CheckFault.{CheckFault}
use Rattle.db_check.specs.declared.walk.CheckedTree.{CheckedTree}
use Rattle.db_check.specs.declared.walk.Comparison.{Comparison}
use Rattle.db_check.specs.declared.walk.Members.TheVariants as holds
use Rattle.db_check.specs.declared.walk.Progress.{Progress}
use Rattle.db_check.specs.Answers.{IsRefusal}
use Rattle.db_check.specs.Compares.{AreMembersOf, IsComparison}
use Rattle.db_check.specs.Passes.{IsMarked}

-- the tree is gone through for what its members are
abbrev pub IsOf : CheckedTree → Content → Type 0
IsOf tree Rows = tree.members ≡ holds.Rows
IsOf tree (Entries index rows) = (tree.members ≡ holds.Entries) × (tree.columns ≡ order_of index)
IsOf tree Anything = tree.members ≡ holds.Any

-- a leaf at this depth is not as deep as the first one
abbrev pub is_elsewhere : Option ℕ → ℕ → Bool
is_elsewhere None depth = false
is_elsewhere (Some leaf) depth = not (leaf == depth)

-- the members that were found in the tree at a root
abbrev pub member_at : ℕ → Found → Option Member
member_at root (InTree subject (Holds page member)) = if subject.root == root then Some member else None
member_at root _ = None

abbrev pub members_at : ℕ → List Found → List Member
members_at root found = filter_map (member_at root) found

-- the entries that were found, where they are looked at: they are in order, and are compared
abbrev pub AreCompared : CheckedTree → Content → List Member → Comparison → Type 0
AreCompared tree Rows members compared = Unit {0}
AreCompared tree (Entries index rows) members compared = (entries : List (List Value)) × AreMembersOf index members entries × IsComparison tree entries compared
AreCompared tree Anything members compared = Unit {0}

-- what is known of a tree by all that was found before
pub record Knows (tree : CheckedTree) (subject : Subject) (flags : List Bool) (walk : Progress) (found : List Found) : Type 0 where
  pub marked : IsMarked flags found
  pub depth : (depth : ℕ) → list_any (ends_elsewhere subject.root depth) found ≡ is_elsewhere walk.leaf depth
  pub compared : AreCompared tree subject.content (members_at subject.root found) walk.compared

-- some of what is found is gone through and right, and of the rest this is so
pub record Reached (tree : CheckedTree) (subject : Subject) (before : List Found) (findings : List Finding) (flags : List Bool) (walk : Progress) (Rest : List Finding → Type 0) : Type 0 where
  pub gone : List Finding
  pub rest : List Finding
  pub whole : findings ≡ gone ++ rest
  pub right : AreRight before (in_tree subject gone)
  pub knows : Knows tree subject flags walk (before ++ in_tree subject gone)
  pub is_rest : Rest rest

-- of findings that are as From says those are left that are as Rest says
abbrev pub Leaves : CheckedTree → (List Finding → Type 0) → (List Finding → Type 0) → List Bool → List Bool → Progress → Progress → Type 0
Leaves tree From Rest old flags was walk =
    (subject : Subject) (before : List Found) → IsOf tree subject.content → Knows tree subject old was before → (findings : List Finding) → From findings → Reached tree subject before findings flags walk Rest

-- findings that are as From says have this first fault
abbrev pub Refuses : {F : Type 0} → CheckedTree → (List Finding → Type 0) → List Bool → Progress → CheckFault F → Type 0
Refuses tree From old was fault =
    (subject : Subject) (before : List Found) → IsOf tree subject.content → Knows tree subject old was before → (findings : List Finding) → From findings → IsRefusal (FirstWrong before (in_tree subject findings)) fault

-- A step over findings that are as From says: it leaves those that are as To says, or answers the first fault.
abbrev pub Steps : {F T : Type 0} → CheckedTree → (List Finding → Type 0) → (T → List Finding → Type 0) → List Bool → List Bool → Progress → Progress → Result T (CheckFault F) → Type 0
Steps tree From To old flags was walk (Ok done) = Leaves tree From (To done) old flags was walk
Steps tree From To old flags was walk (Err fault) = Refuses tree From old was fault

-- all is gone through
abbrev pub Ended : {T : Type 0} → T → List Finding → Type 0
Ended done findings = findings ≡ []
