-- The rows that were read of a tree, and what is left of its walk.
use Rattle.std.proofs.Common.{◌≡◌, ℕ, List, [], ◌∷◌, ◌++◌, Option, Some, None, Result, Ok, Err, Vec, Global, refl, sym, ap, ◌∙◌, append_assoc, append-nil}
use Rattle.std.proofs.lemmas.List.{map-append}
use Rattle.tree_spec.specs.declared.TreeKind.{TreeKind}
use Rattle.tree_spec.specs.declared.TreeKind.TheVariants.{Table}
use Rattle.tree_spec.specs.declared.fault.TreeFault.{TreeFault}
use Rattle.tree_spec.specs.FaultsLaws.{damage-then}
use Rattle.tree_spec.specs.Standing.{Sizes, Paged}
use Rattle.tree_spec.specs.Trees.{Member}
use Rattle.tree_walk.specs.declared.path.Cursor.{Cursor}
use Rattle.tree_walk.specs.declared.cursor.Row.{Row}
use Rattle.tree_walk.specs.Courses.{StartsWalk}
use Rattle.database_spec.specs.Walks.{Finding, members_found, stops, StopsAt}
use Rattle.tree_rows.specs.RemainingLaws.{first-remains}
use Rattle.walk_laws.specs.WalksMadeLaws.{walk-found}
use Rattle.tree_rows.specs.Remaining.{Remains}
use Rattle.tree_rows.specs.Rows.{member_of, members_of, IsFirstStop, LeavesRow, ReadsFrom, ReadsRows}

module _ (sizes : Sizes) (base : Paged) where
  -- the rows so far are the first members, and the rest is left where the cursor stands
  pub record IsKept (kind : TreeKind) (findings : List Finding) (cursor : Cursor) (rows : List Row) : Type 0 where
    pub rest : List Finding
    pub remains : Remains sizes base kind rest cursor
    pub members : members_found findings ≡ members_of rows ++ members_found rest
    pub stops_are : stops findings ≡ stops rest

  abbrev pub KeepsRows : Cursor → Cursor → List Row → Type 0
  KeepsRows first cursor rows = (kind : TreeKind) (findings : List Finding) → Remains sizes base kind findings first → IsKept kind findings cursor rows

  pub rows-none : (first : Cursor) → KeepsRows first first []
  rows-none first kind findings remains = record { rest = findings; remains = remains; members = refl; stops_are = refl }

  -- one more row
  pub rows-next : (F : Type 0) (first old new : Cursor) (rows : List Row) (row : Row) → KeepsRows first old rows → (let left : Result (Option Row) (TreeFault F) = Ok (Some row) in LeavesRow sizes base old new left)
      → KeepsRows first new (rows ++ row ∷ [])
  rows-next F first old new rows row keeps leaves kind findings remains =
      let kept = keeps kind findings remains in
      let step = leaves kind kept.rest kept.remains in
      record {
        rest = step.0;
        remains = step.1;
        members = kept.members ∙ ap (λ (ms : List Member). members_of rows ++ ms) step.2 ∙ sym (append_assoc (members_of rows) (member_of row ∷ []) (members_found step.0))
            ∙ ap (λ (ms : List Member). ms ++ members_found step.0) (sym (map-append member_of rows (row ∷ [])));
        stops_are = kept.stops_are ∙ step.3;
      }

  -- no row is left
  pub rows-end : (F : Type 0) (first old new : Cursor) (rows : Vec Row Global) → KeepsRows first old rows.items → (let left : Result (Option Row) (TreeFault F) = Ok None in LeavesRow sizes base old new left)
      → (let read : Result (Vec Row Global) (TreeFault F) = Ok rows in ReadsFrom sizes base first read)
  rows-end F first old new rows keeps leaves kind findings remains =
      let kept = keeps kind findings remains in
      let none = leaves kind kept.rest kept.remains in
      (kept.members ∙ ap (λ (ms : List Member). members_of rows.items ++ ms) none.0 ∙ append-nil (members_of rows.items), kept.stops_are ∙ none.1)

  -- the walk was refused
  pub rows-fault : (F : Type 0) (first old new : Cursor) (rows : List Row) (fault : TreeFault F) → KeepsRows first old rows → (let left : Result (Option Row) (TreeFault F) = Err fault in LeavesRow sizes base old new left)
      → (let read : Result (Vec Row Global) (TreeFault F) = Err fault in ReadsFrom sizes base first read)
  rows-fault F first old new rows fault keeps leaves kind findings remains =
      let kept = keeps kind findings remains in
      damage-then (IsFirstStop kept.rest) (IsFirstStop findings) (λ page rule is. (is.0, kept.stops_are ∙ is.1)) fault (leaves kind kept.rest kept.remains)

  -- what is read from the first member on
  pub rows-first : (F : Type 0) (root : ℕ) (cursor : Cursor) (result : Result (Vec Row Global) (TreeFault F)) → (let stood : Result Cursor (TreeFault F) = Ok cursor in StartsWalk sizes base Table root stood)
      → ReadsFrom sizes base cursor result → ReadsRows sizes base root result
  rows-first F root cursor result stood reads = by result reads
    where
      by : (r : Result (Vec Row Global) (TreeFault F)) → ReadsFrom sizes base cursor r → ReadsRows sizes base root r
      by (Ok rows) from =
          let walk = walk-found sizes base Table root in
          let read = from Table walk.0 (first-remains sizes base Table {F = F} root walk.0 walk.1 (Ok cursor) stood) in
          (walk.0, walk.1, read.1, sym read.0)
      by (Err fault) from =
          let walk = walk-found sizes base Table root in
          damage-then (IsFirstStop walk.0) (λ page rule. StopsAt sizes base Table root (page, rule)) (λ page rule is. (walk.0, is.0, walk.1, is.1)) fault
          (from Table walk.0 (first-remains sizes base Table {F = F} root walk.0 walk.1 (Ok cursor) stood))

  -- the first member is not reached
  pub rows-none_first : (F : Type 0) (root : ℕ) (fault : TreeFault F) → (let stood : Result Cursor (TreeFault F) = Err fault in StartsWalk sizes base Table root stood)
      → (let read : Result (Vec Row Global) (TreeFault F) = Err fault in ReadsRows sizes base root read)
  rows-none_first F root fault stood =
      let walk = walk-found sizes base Table root in
      damage-then (IsFirstStop walk.0) (λ page rule. StopsAt sizes base Table root (page, rule)) (λ page rule is. (walk.0, is.0, walk.1, is.1)) fault
      (first-remains sizes base Table {F = F} root walk.0 walk.1 (Err fault) stood)
