-- What is touched, as it is gathered from a group's steps.
use Rattle.std.specs.Prelude.{◌≡◌, ◌||◌, ◌↔◌, ℤ, List, map, Contains}
use Rattle.std.specs.List.{list_any}
use Rattle.std.specs.List.Sorted.{IsStrictlySortedBy}
use Rattle.std.specs.Ordering.{int_cmp, is_eq}
use Rattle.rbu_value.specs.declared.value.Value.{Value}
use Rattle.index_changes.specs.declared.pairs.OldNew.{OldNew}
use Rattle.group_rows.specs.Runs.{Run}
use Rattle.group_rows.specs.Sides.{pair_at}

-- the rowids of rows that were met or made, in order, each with its rows before and behind
pub record ArePairsOf (old : List (ℤ × List Value)) (run : Run) (pairs : List OldNew) : Type 0 where
  pub rowids : List ℤ
  pub behind : List (ℤ × List Value)
  pub rise : IsStrictlySortedBy int_cmp rowids
  pub all : (rowid : ℤ) → list_any (λ other. is_eq (int_cmp rowid other)) rowids ≡ (list_any (λ other. is_eq (int_cmp rowid other)) run.made || list_any (λ other. is_eq (int_cmp rowid other)) run.met)
  pub same : (row : ℤ × List Value) → Contains behind row ↔ Contains run.rows row
  pub are : pairs ≡ map (pair_at old behind) rowids
