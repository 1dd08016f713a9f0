-- The rows of the little target behind each step of the update that was worked out by hand.
use Rattle.std.specs.Prelude.{List, [], ◌∷◌, codes}
use Rattle.database_spec.specs.Rows.{TableRow}
use Rattle.database_spec.specs.LittleTarget.{row_record, target_row}

abbrev pub first_changed : TableRow
first_changed = target_row 1 (row_record 19 (codes "one") 11) (codes "one") 11

abbrev pub second_row : TableRow
second_row = target_row 2 (row_record 19 (codes "two") 20) (codes "two") 20

abbrev pub third_row : TableRow
third_row = target_row 3 (row_record 23 (codes "three") 30) (codes "three") 30

abbrev pub third_replaced : TableRow
third_replaced = target_row 3 (row_record 21 (codes "drei") 20) (codes "drei") 20

-- behind the change of the first row, the deletion of the second, and the replacement of the third; behind the insertion of the fourth stands what the transaction leaves
abbrev pub one_behind : List TableRow
one_behind = first_changed ∷ second_row ∷ third_row ∷ []

abbrev pub two_behind : List TableRow
two_behind = first_changed ∷ third_row ∷ []

abbrev pub three_behind : List TableRow
three_behind = first_changed ∷ third_replaced ∷ []
