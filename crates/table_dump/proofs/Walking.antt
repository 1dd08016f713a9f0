-- The rows that were printed, and what is left of the walk where a cursor stands.
use Rattle.std.proofs.Common.{◌≡◌, ℕ, List, [], ◌∷◌, ◌++◌, ◌-◌, ◌⊎◌, Bool, true, false, Option, Some, None, Result, Ok, Err, refl, sym, ap, ◌∙◌, subst, inl, inr, append_assoc, append-nil}
use Rattle.std.proofs.Math.Path.{subst⁻¹}
use Rattle.std.specs.Prelude.{slice_index_or}
use Rattle.refusal.specs.declared.Refusal.{Refusal}
use Rattle.refusal.specs.declared.Refusal.TheVariants.{TreeDamaged}
use Rattle.refusal.specs.declared.Rule.{Rule}
use Rattle.refusal.specs.declared.Rule.TheVariants as broken
use Rattle.rbu_value.specs.declared.value.Value.{Value}
use Rattle.schema_spec.specs.declared.schema.Table.{Table}
use Rattle.tree_spec.specs.declared.TreeKind.TheVariants.{Table as TableTree}
use Rattle.tree_spec.specs.declared.fault.TreeFault.{TreeFault}
use Rattle.tree_spec.specs.Standing.{Sizes, Paged}
use Rattle.tree_spec.specs.Trees.{Member}
use Rattle.tree_walk.specs.declared.path.Cursor.{Cursor}
use Rattle.tree_walk.specs.declared.cursor.Row.{Row}
use Rattle.tree_walk.specs.Courses.{IsPast, Spot, Damage, Course, ends, stops as stops_at, behind_first, IsFirstOf, IsBadFirst, MovesOver, ReadsFirst, StartsWalk}
use Rattle.tree_walk.specs.PayloadsLaws.{bad_chain-one, no_view, payload-not_broken, payload-one}
use Rattle.tree_rows.specs.Remaining.{cell_before, Follows, Remains}
use Rattle.tree_rows.specs.CoursesLaws.{walk-course}
use Rattle.database_spec.specs.Rows.{IsRow}
use Rattle.database_spec.specs.Walks.{Finding, Finds, Ends, Holds, Breaks, Disorders, Bares, IsWalk}
use Rattle.row_values.specs.declared.read.Unread.{Unread}
use Rattle.row_values.specs.declared.read.Unread.TheVariants as unread
use Rattle.row_values.specs.Values.{HasValues, IsUnread, IsWant, member_with, row_with}
use Rattle.dump_spec.specs.Printing.{row_line}
use Rattle.dump_spec.specs.TableDumps.{behind, IsRowsAnswer}
use Rattle.table_dump.specs.declared.fault.PrintFault.{PrintFault}
use Rattle.table_dump.specs.declared.fault.RowFault.{RowFault}
use Rattle.table_dump.specs.declared.fault.RowFault.TheVariants as refused
use Rattle.table_dump.specs.Answers.{IsRefusedOrOther, RefusesRow, of_row_fault, of_tree_fault}
use Rattle.table_dump.specs.Rows.{IsLine, IsRecordRefusal, IsWrongRow, Leaves, PrintsFrom, PrintsNext}
use Rattle.table_dump.proofs.Faults.{damage-refused, refused-then, row-refused}

-- A course that ends has no cell and does not stop, and one that stops has no cell and stops in one place.

not_cell : (spot : Spot) (rest : Course) → ends ≡ cell_before spot rest → ⊥
not_cell spot rest same = let none : ◌≡◌ {A = List Spot} [] (spot ∷ rest.spots) = ap (λ (c : Course). c.spots) same in let no : ⊥ = cc in no

not_stop : (page : ℕ) (rule : Rule) → ends ≡ stops_at page rule → ⊥
not_stop page rule same = let none : ◌≡◌ {A = Option Damage} None (Some (record { page = page; rule = rule })) = ap (λ (c : Course). c.damage) same in let no : ⊥ = cc in no

stop_not_cell : (page : ℕ) (rule : Rule) (spot : Spot) (rest : Course) → stops_at page rule ≡ cell_before spot rest → ⊥
stop_not_cell page rule spot rest same = let none : ◌≡◌ {A = List Spot} [] (spot ∷ rest.spots) = ap (λ (c : Course). c.spots) same in let no : ⊥ = cc in no

damage_or : Option Damage → Damage → Damage
damage_or None other = other
damage_or (Some damage) other = damage

stop-one : (page other : ℕ) (r s : Rule) → stops_at page r ≡ stops_at other s → (page ≡ other) × (r ≡ s)
unfolding damage_or
stop-one page other r s same =
    let any : Damage = record { page = 0; rule = broken.Kind } in
    (ap (λ (c : Course). (damage_or c.damage any).page) same, ap (λ (c : Course). (damage_or c.damage any).rule) same)

-- damage in one place is refused alike
damage-same : (page other : ℕ) (rule r : Rule) → (page ≡ other) × (rule ≡ r) → ◌≡◌ {A = Result (List ℕ) Refusal} (Err (TreeDamaged page rule)) (Err (TreeDamaged other r))
damage-same page other rule r same = λ i. Err (TreeDamaged (same.0 i) (same.1 i))

-- Texts behind one another.

behind-none : (answer : Result (List ℕ) Refusal) → behind [] answer ≡ answer
behind-none (Ok text) = refl
behind-none (Err refusal) = refl

behind-twice : (text line : List ℕ) (answer : Result (List ℕ) Refusal) → behind text (behind line answer) ≡ behind (text ++ line) answer
behind-twice text line (Ok later) = ap Ok (sym (append_assoc text line later))
behind-twice text line (Err refusal) = refl

-- Rows.

-- a record that has values has a line
pub values-line : (table : Table) (row : Row) (values : List Value) → HasValues table row.rowid row.payload values → IsLine table (member_with row.rowid row.payload) (row_line row.rowid values)
values-line table row values is = (row_with row.rowid row.payload values, is, refl)

-- one that has none is refused for the cause
pub values-refused : (name : List ℕ) (table : Table) (member : Member) (why : Unread) (fault : RowFault) → IsWant why ⊎ IsUnread table member.payload why → RefusesRow (IsRecordRefusal name member.rowid why) fault
    → RefusesRow (IsWrongRow name table member) fault
values-refused name table member (unread.Cause cause) (refused.Refused refusal) (inl want) e = absurd want
values-refused name table member (unread.Cause cause) (refused.Refused refusal) (inr has) e = (cause, has, e)
values-refused name table member (unread.Memory error) (refused.Refused refusal) has e = absurd e
values-refused name table member why (refused.Memory error) has e = tt

module _ (name : List ℕ) (table : Table) (sizes : Sizes) (base : Paged) where
  abbrev Printed : List Finding → Result (List ℕ) Refusal → Type 0
  Printed = IsRowsAnswer name table

  abbrev PrintedRefusal : List Finding → Refusal → Type 0
  PrintedRefusal findings refusal = Printed findings (Err refusal)

  -- what is found in front of a row prints nothing
  record StartsRow (findings : List Finding) (course : Course) (row : Row) : Type 0 where
    later : List Finding
    follows : Follows sizes base TableTree later ends (behind_first course)
    line : (text : List ℕ) → IsLine table (member_with row.rowid row.payload) text → (answer : Result (List ℕ) Refusal) → Printed later answer → Printed findings (behind text answer)
    wrong : (refusal : Refusal) → IsWrongRow name table (member_with row.rowid row.payload) refusal → PrintedRefusal findings refusal

  row-found : (findings : List Finding) (course : Course) (row : Row) → Follows sizes base TableTree findings ends course → IsFirstOf sizes base course.spots (Some row) → StartsRow findings course row
  row-found [] course row is first = absurd (subst (λ (c : Course). IsFirstOf sizes base c.spots (Some row)) is first)
  row-found (Finds page ∷ findings) course row is first = let s = row-found findings course row is first in record { later = s.later; follows = s.follows; line = s.line; wrong = s.wrong }
  row-found (Ends page depth ∷ findings) course row is first = let s = row-found findings course row is first in record { later = s.later; follows = s.follows; line = s.line; wrong = s.wrong }
  row-found (Bares page ∷ findings) course row is first = let s = row-found findings course row is first in record { later = s.later; follows = s.follows; line = s.line; wrong = s.wrong }
  row-found (Holds page member ∷ findings) course row (spot, rest, held, on, same) first =
      let read = subst (λ (c : Course). IsFirstOf sizes base c.spots (Some row)) same first in
      let view = slice_index_or spot.page.views spot.at no_view in
      let rowid = sym (held.rowid_is no_view) ∙ sym (read no_view).0 in
      let payload = payload-one base.pages sizes.size sizes.usable base.count spot.page spot.at view member.payload row.payload (held.payload_is no_view) (read no_view).1 in
      let one : member ≡ member_with row.rowid row.payload = λ i. record { rowid = rowid i; payload = payload i } in
      record {
        later = findings;
        follows = subst⁻¹ (Follows sizes base TableTree findings ends) (ap behind_first same) on;
        line = λ text is answer more. inl (is.0, answer, subst⁻¹ (λ (m : Member). IsRow table m is.0) one is.1, more, ap (λ (t : List ℕ). behind t answer) is.2);
        wrong = λ refusal is. let here = subst⁻¹ (λ (m : Member). IsWrongRow name table m refusal) one is in inr (here.0, here.1, ap Err here.2);
      }
  row-found (Breaks page rule ∷ findings) course row (inl same) first = absurd (subst (λ (c : Course). IsFirstOf sizes base c.spots (Some row)) same first)
  row-found (Breaks page rule ∷ findings) course row (inr (spot, rest, torn, on, same)) first =
      let read = subst (λ (c : Course). IsFirstOf sizes base c.spots (Some row)) same first in
      let view = slice_index_or spot.page.views spot.at no_view in
      absurd (payload-not_broken base.pages sizes.size sizes.usable base.count spot.page spot.at view row.payload (read no_view).1 (torn no_view).0 page rule (torn no_view).1)
  row-found (Disorders page ∷ findings) course row is first = absurd (subst (λ (c : Course). IsFirstOf sizes base c.spots (Some row)) is first)

  -- a course that stops before any cell
  stop-refused : (findings : List Finding) (page : ℕ) (rule : Rule) → Follows sizes base TableTree findings ends (stops_at page rule) → PrintedRefusal findings (TreeDamaged page rule)
  stop-refused [] page rule is = absurd (not_stop page rule (sym is))
  stop-refused (Finds p ∷ findings) page rule is = stop-refused findings page rule is
  stop-refused (Ends p depth ∷ findings) page rule is = stop-refused findings page rule is
  stop-refused (Bares p ∷ findings) page rule is = stop-refused findings page rule is
  stop-refused (Holds p m ∷ findings) page rule (spot, rest, held, on, same) = absurd (stop_not_cell page rule spot rest same)
  stop-refused (Breaks p r ∷ findings) page rule (inl same) = damage-same page p rule r (stop-one page p rule r same)
  stop-refused (Breaks p r ∷ findings) page rule (inr (spot, rest, torn, on, same)) = absurd (stop_not_cell page rule spot rest same)
  stop-refused (Disorders p ∷ findings) page rule is = damage-same page p rule broken.Cells (stop-one page p rule broken.Cells is)

  -- a first cell whose chain is broken
  torn-refused : (findings : List Finding) (course : Course) (page : ℕ) (rule : Rule) → Follows sizes base TableTree findings ends course → IsBadFirst sizes base course.spots page rule → PrintedRefusal findings (TreeDamaged page rule)
  torn-refused [] course page rule is bad = absurd (subst (λ (c : Course). IsBadFirst sizes base c.spots page rule) is bad)
  torn-refused (Finds p ∷ findings) course page rule is bad = torn-refused findings course page rule is bad
  torn-refused (Ends p depth ∷ findings) course page rule is bad = torn-refused findings course page rule is bad
  torn-refused (Bares p ∷ findings) course page rule is bad = torn-refused findings course page rule is bad
  torn-refused (Holds p m ∷ findings) course page rule (spot, rest, held, on, same) bad =
      let torn = subst (λ (c : Course). IsBadFirst sizes base c.spots page rule) same bad in
      let view = slice_index_or spot.page.views spot.at no_view in
      absurd (payload-not_broken base.pages sizes.size sizes.usable base.count spot.page spot.at view m.payload (held.payload_is no_view) (torn no_view).0 page rule (torn no_view).1)
  torn-refused (Breaks p r ∷ findings) course page rule (inl same) bad = absurd (subst (λ (c : Course). IsBadFirst sizes base c.spots page rule) same bad)
  torn-refused (Breaks p r ∷ findings) course page rule (inr (spot, rest, torn, on, same)) bad =
      let also = subst (λ (c : Course). IsBadFirst sizes base c.spots page rule) same bad in
      let view = slice_index_or spot.page.views spot.at no_view in
      damage-same page p rule r
      (bad_chain-one base.pages sizes.size sizes.usable base.count spot.page.number view.overflow (view.payload - view.local) page p rule r (also no_view).1 (torn no_view).1)
  torn-refused (Disorders p ∷ findings) course page rule is bad = absurd (subst (λ (c : Course). IsBadFirst sizes base c.spots page rule) is bad)

  -- a course that ends
  none-left : (findings : List Finding) → Follows sizes base TableTree findings ends ends → Printed findings (Ok [])
  none-left [] is = refl
  none-left (Finds page ∷ findings) is = none-left findings is
  none-left (Ends page depth ∷ findings) is = none-left findings is
  none-left (Bares page ∷ findings) is = none-left findings is
  none-left (Holds page member ∷ findings) (spot, rest, held, on, same) = absurd (not_cell spot rest same)
  none-left (Breaks page rule ∷ findings) (inl same) = absurd (not_stop page rule same)
  none-left (Breaks page rule ∷ findings) (inr (spot, rest, torn, on, same)) = absurd (not_cell spot rest same)
  none-left (Disorders page ∷ findings) is = absurd (not_stop page broken.Cells is)

  module _ (findings : List Finding) (old : Cursor) (remains : Remains sizes base TableTree findings old) where
    module _ (F : Type 0) (row : Row) (read : let one : Result (Option Row) (TreeFault F) = Ok (Some row) in ReadsFirst sizes base old one) where
      starts : StartsRow findings remains.course row
      starts = row-found findings remains.course row remains.follows (read remains.course remains.stands)

      -- a row was printed and left
      pub leaves-row : (T : Type 0) (moved : T) (new : Cursor) (text : List ℕ) → IsLine table (member_with row.rowid row.payload) text → (let on : Result T (TreeFault F) = Ok moved in MovesOver sizes base old new on)
          → Leaves name table sizes base findings text new
      leaves-row T moved new text line moves = record {
        later = starts.later;
        remains = record { course = behind_first remains.course; stands = moves remains.course remains.stands; follows = starts.follows };
        goes_on = starts.line text line;
      }

      -- a record that is none was refused
      pub refuses-row : (fault : RowFault) (told : PrintFault F) → told ≡ of_row_fault fault → RefusesRow (IsWrongRow name table (member_with row.rowid row.payload)) fault → IsRefusedOrOther (PrintedRefusal findings) told
      refuses-row fault told e wrong = row-refused (IsWrongRow name table (member_with row.rowid row.payload)) (PrintedRefusal findings) fault told e starts.wrong wrong

      -- damage behind a row
      pub damage-behind : (T : Type 0) (fault : TreeFault F) (told : PrintFault F) (new : Cursor) (text : List ℕ) → told ≡ of_tree_fault fault → IsLine table (member_with row.rowid row.payload) text
          → (let on : Result T (TreeFault F) = Err fault in MovesOver sizes base old new on) → IsRefusedOrOther (PrintedRefusal findings) told
      damage-behind T fault told new text e line moves =
          damage-refused (λ page rule. behind_first remains.course ≡ stops_at page rule) (PrintedRefusal findings) fault told e
          (λ page rule is. starts.line text line (Err (TreeDamaged page rule)) (stop-refused starts.later page rule (subst (Follows sizes base TableTree starts.later ends) is starts.follows))) (moves remains.course remains.stands)

    -- the row was not read
    pub damage-first : {F : Type 0} (fault : TreeFault F) (told : PrintFault F) → told ≡ of_tree_fault fault → (let one : Result (Option Row) (TreeFault F) = Err fault in ReadsFirst sizes base old one)
        → IsRefusedOrOther (PrintedRefusal findings) told
    damage-first fault told e read =
        damage-refused (IsBadFirst sizes base remains.course.spots) (PrintedRefusal findings) fault told e (λ page rule bad. torn-refused findings remains.course page rule remains.follows bad) (read remains.course remains.stands)

    -- no row is left
    pub rows-end : IsPast old → Printed findings (Ok [])
    rows-end past = none-left findings (subst (Follows sizes base TableTree findings ends) (remains.stands.past past) remains.follows)

  -- damage comes before any row
  pub damage-at_root : {F : Type 0} (root : ℕ) (findings : List Finding) → IsWalk sizes base TableTree root findings → (fault : TreeFault F) (told : PrintFault F) → told ≡ of_tree_fault fault
      → (let stood : Result Cursor (TreeFault F) = Err fault in StartsWalk sizes base TableTree root stood) → IsRefusedOrOther (PrintedRefusal findings) told
  damage-at_root root findings walk fault told e stood =
      let course = walk-course sizes base TableTree root findings walk in
      damage-refused (λ page rule. course.0 ≡ stops_at page rule) (PrintedRefusal findings) fault told e
      (λ page rule is. stop-refused findings page rule (subst (Follows sizes base TableTree findings ends) is course.2)) (stood course.0 course.1)

  -- what is left where a cursor stands, behind a text
  abbrev pub Keeps : Cursor → Cursor → List ℕ → Type 0
  Keeps start cursor text = (findings : List Finding) → Remains sizes base TableTree findings start → Leaves name table sizes base findings text cursor

  pub prints-none : (cursor : Cursor) → Keeps cursor cursor []
  prints-none cursor = λ findings remains. record { later = findings; remains = remains; goes_on = λ answer is. subst⁻¹ (Printed findings) (behind-none answer) is }

  -- one more row
  pub prints-next : (F : Type 0) (start old new : Cursor) (before after : List ℕ) → Keeps start old before → (let next : Result Bool (PrintFault F) = Ok true in PrintsNext name table sizes base old new before after next) → Keeps start new after
  prints-next F start old new before after keeps prints = λ findings remains.
      let kept = keeps findings remains in
      let step = prints kept.later kept.remains in
      record {
        later = step.1.later;
        remains = step.1.remains;
        goes_on = λ answer is.
            subst⁻¹ (λ (text : List ℕ). Printed findings (behind text answer)) step.2
            (subst (Printed findings) (behind-twice before step.0 answer) (kept.goes_on (behind step.0 answer) (step.1.goes_on answer is)));
      }

  -- no row is left
  pub prints-end : (F : Type 0) (start old new : Cursor) (before after : List ℕ) → Keeps start old before → (let next : Result Bool (PrintFault F) = Ok false in PrintsNext name table sizes base old new before after next)
      → (let answer : Result (List ℕ) (PrintFault F) = Ok after in PrintsFrom name table sizes base start answer)
  prints-end F start old new before after keeps prints = λ findings remains.
      let kept = keeps findings remains in
      let none = prints kept.later kept.remains in
      subst⁻¹ (λ (text : List ℕ). Printed findings (Ok text)) none.1 (subst (λ (text : List ℕ). Printed findings (Ok text)) (append-nil before) (kept.goes_on (Ok []) none.0))

  pub prints-fault : {F : Type 0} (start old new : Cursor) (before after : List ℕ) (fault : PrintFault F) → Keeps start old before
      → (let next : Result Bool (PrintFault F) = Err fault in PrintsNext name table sizes base old new before after next)
      → (let answer : Result (List ℕ) (PrintFault F) = Err fault in PrintsFrom name table sizes base start answer)
  prints-fault start old new before after fault keeps prints = λ findings remains.
      let kept = keeps findings remains in
      refused-then (PrintedRefusal kept.later) (PrintedRefusal findings) fault (λ refusal. kept.goes_on (Err refusal)) (prints kept.later kept.remains)
