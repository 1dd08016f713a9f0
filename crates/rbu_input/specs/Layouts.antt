-- Where the columns of a target stand in its `data_` table (The RBU Extension, section 2.1).
use Rattle.std.specs.Prelude.{◌≡◌, ℕ, Bool, true, false, List, length, map, replicate, slice_index_or, codes}
use Rattle.rbu_value.specs.declared.value.Value.{Value}
use Rattle.rbu_value.specs.declared.value.Value.TheVariants.{Null}
use Rattle.rbu_rows.specs.declared.control.Control.{Control}
use Rattle.rbu_rows.specs.declared.control.Control.TheVariants.{Insert, Replace, Delete, Update}
use Rattle.schema_spec.specs.declared.schema.Table.{Table}
use Rattle.schema_spec.specs.Names.{place_of}
use Rattle.prepared_spec.specs.DataTables.{column_names}
use Rattle.prepared_spec.specs.PreparedRows.{lettered}
use Rattle.rbu_input.specs.declared.layout.Layout.{Layout}

-- the places of names among others
abbrev pub places_of : List (List ℕ) → List (List ℕ) → List ℕ
places_of names others = map (λ name. place_of name others) names

-- what stands at places
abbrev pub values_at : List Value → List ℕ → List Value
values_at values places = map (λ at. slice_index_or values at Null) places

abbrev pub marks_at : List Bool → List ℕ → List Bool
marks_at marks places = map (λ at. slice_index_or marks at false) places

-- the layout of a `data_` table for its target
pub record IsLayout (target own : Table) (layout : Layout) : Type 0 where
  pub columns : layout.columns.items ≡ places_of (column_names target) (column_names own)
  pub letters : layout.letters.items ≡ places_of (column_names target) (lettered target own)
  pub control : layout.control ≡ place_of (codes "rbu_control") (column_names own)
  pub rowid : layout.rowid ≡ place_of (codes "rbu_rowid") (column_names own)
  pub key : layout.key.items ≡ target.key
  pub every : layout.every.items ≡ replicate (length target.columns) true
  pub no : layout.no.items ≡ replicate (length target.columns) false

-- a control whose letters stand at places, with its marks in the order of these
abbrev pub reordered : List ℕ → Control → Control
reordered letters Insert = Insert
reordered letters Replace = Replace
reordered letters Delete = Delete
reordered letters (Update marks) = Update (marks_at marks letters)
