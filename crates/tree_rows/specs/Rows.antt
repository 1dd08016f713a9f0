-- The rows that are read of a tree.
use Rattle.std.specs.Prelude.{◌≡◌, ℕ, List, [], ◌∷◌, Option, Some, None, Result, Ok, Err, Vec, map}
use Rattle.std.specs.Global.{Global}
use Rattle.common_spec.specs.Reading.{OrFault}
use Rattle.refusal.specs.declared.Rule.{Rule}
use Rattle.tree_spec.specs.declared.TreeKind.{TreeKind}
use Rattle.tree_spec.specs.declared.TreeKind.TheVariants.{Table}
use Rattle.tree_spec.specs.declared.fault.TreeFault.{TreeFault}
use Rattle.tree_spec.specs.Faults.{IsDamageOrOther}
use Rattle.tree_spec.specs.Standing.{Sizes, Paged}
use Rattle.tree_spec.specs.Trees.{Member}
use Rattle.tree_walk.specs.declared.path.Cursor.{Cursor}
use Rattle.tree_walk.specs.declared.cursor.Row.{Row}
use Rattle.database_spec.specs.Walks.{Finding, members_found, stops, IsList, StopsAt}
use Rattle.tree_rows.specs.Remaining.{Remains}

-- the member of which a row was read
abbrev pub member_of : Row → Member
member_of row = record { rowid = row.rowid; payload = row.payload }

abbrev pub members_of : List Row → List Member
members_of = map member_of

-- the first thing among these that ends the way of a cursor
abbrev pub IsFirstStop : List Finding → ℕ → Rule → Type 0
IsFirstStop findings page rule = (later : List (ℕ × Rule)) × (stops findings ≡ (page, rule) ∷ later)

module _ (sizes : Sizes) (base : Paged) where
  -- A cursor gives the first member of what is left of its walk and moves on to the rest; or nothing is left, or the first thing that ends its way is met.
  abbrev pub LeavesRow : {F : Type 0} → Cursor → Cursor → Result (Option Row) (TreeFault F) → Type 0
  LeavesRow old new (Ok (Some row)) = (kind : TreeKind) (findings : List Finding) → Remains sizes base kind findings old
      → (rest : List Finding) × Remains sizes base kind rest new × (members_found findings ≡ member_of row ∷ members_found rest) × (stops findings ≡ stops rest)
  LeavesRow old new (Ok None) = (kind : TreeKind) (findings : List Finding) → Remains sizes base kind findings old → (members_found findings ≡ []) × (stops findings ≡ [])
  LeavesRow old new (Err fault) = (kind : TreeKind) (findings : List Finding) → Remains sizes base kind findings old → IsDamageOrOther (IsFirstStop findings) fault

  -- all members that are left, or the first thing that ends the way
  abbrev pub ReadsFrom : {F : Type 0} → Cursor → Result (Vec Row Global) (TreeFault F) → Type 0
  ReadsFrom cursor (Ok rows) = (kind : TreeKind) (findings : List Finding) → Remains sizes base kind findings cursor → (members_found findings ≡ members_of rows.items) × (stops findings ≡ [])
  ReadsFrom cursor (Err fault) = (kind : TreeKind) (findings : List Finding) → Remains sizes base kind findings cursor → IsDamageOrOther (IsFirstStop findings) fault

  -- All rows of the table at a root, by which a cursor comes to the end of its tree; or the damage that a cursor meets, or the store failed, or memory is wanting.
  abbrev pub ReadsRows : {F : Type 0} → ℕ → Result (Vec Row Global) (TreeFault F) → Type 0
  ReadsRows root result = OrFault (λ rows. IsList sizes base Table root (members_of rows.items)) (IsDamageOrOther (λ page rule. StopsAt sizes base Table root (page, rule))) result
