-- The records of a targeted table that were checked, and what is left of them.
use Rattle.std.proofs.Common.{◌≡◌, ℕ, List, [], ◌∷◌, length, ◌-◌, Bool, true, false, Option, Some, Result, Ok, Err, ◌⊎◌, refl, sym, ap, ◌∙◌, subst, inl, inr}
use Rattle.std.proofs.Math.Path.{subst⁻¹}
use Rattle.rbu_value.specs.declared.value.Value.{Value}
use Rattle.schema_spec.specs.declared.schema.Table.{Table}
use Rattle.tree_spec.specs.declared.TreeKind.TheVariants.{Table as TableTree}
use Rattle.tree_spec.specs.Standing.{Sizes, Paged}
use Rattle.tree_spec.specs.Trees.{Member}
use Rattle.tree_walk.specs.declared.path.Cursor.{Cursor}
use Rattle.tree_walk.specs.declared.cursor.Row.{Row}
use Rattle.tree_walk.specs.Courses.{IsPast, Course, ends, stops as stops_at, behind_first, IsFirstOf, IsBadFirst, MovesOver, ReadsFirst, StartsWalk}
use Rattle.tree_walk.specs.PayloadsLaws.{bad_chain-one, no_view, payload-not_broken, payload-one}
use Rattle.tree_rows.specs.Remaining.{Follows, Remains}
use Rattle.tree_rows.specs.CoursesLaws.{walk-course}
use Rattle.database_spec.specs.Walks.{Finding, Finds, Ends, Holds, Breaks, Disorders, Bares, IsWalk, stop_of}
use Rattle.refusal.specs.declared.Rule.{Rule}
use Rattle.refusal.specs.declared.Rule.TheVariants as broken
use Rattle.std.specs.Prelude.{slice_index_or}
use Rattle.tree_spec.specs.declared.fault.TreeFault.{TreeFault}
use Rattle.prepared_spec.specs.declared.input_fault.InputFault.TheVariants.{TreeDamaged}
use Rattle.prepared_spec.specs.TargetRecords.{TargetFinding, IsWrongTarget, FirstWrongTarget, AllRightTargets}
use Rattle.prepared_spec.specs.declared.input_fault.InputFault.{InputFault}
use Rattle.prepared_spec.specs.InputFaultsLaws.{row-no_cause}
use Rattle.rbu_input.specs.declared.fault.InputError.{InputError}
use Rattle.rbu_input.specs.declared.store_fault.StoreFault.{StoreFault}
use Rattle.rbu_input.specs.declared.values.Unread.{Unread}
use Rattle.rbu_input.specs.declared.values.Unread.TheVariants as unread
use Rattle.rbu_input.specs.RowAnswers.{IsWant, IsUnread, IsUnreadWant, HasValues, Refuses, member_with}
use Rattle.rbu_input.specs.Reading.{IsRefusedOrOther, of_input_error, of_tree_fault}
use Rattle.rbu_input.specs.Targets.{IsRefusalOf, IsWrongRecord, IsRightRecord, as_target, targets_of, LeavesRecord, ChecksNext, ChecksFrom}
use Rattle.rbu_input.proofs.Walking.{damage-refused, end-not_cell, end-not_stop, stop-not_cell, stop-one, input-refused, refused-then}

-- a record that has values is a row
pub record-right : (name : List ℕ) (table : Table) (member : Member) (values : List Value) → HasValues table member.rowid member.payload values → IsRightRecord name table member
record-right name table member values is fault (cause, has, e) = row-no_cause member.payload (length table.columns) cause is.stored has is.is_record is.many

-- one that has none is refused for the cause
pub record-wrong : (name : List ℕ) (table : Table) (member : Member) (why : Unread) (refused : InputFault) → IsUnreadWant why ⊎ IsUnread table member.payload why → IsRefusalOf name member.rowid why refused
    → IsWrongRecord name table member refused
record-wrong name table member (unread.Cause cause) refused (inl want) e = absurd want
record-wrong name table member (unread.Cause cause) refused (inr has) e = (cause, has, e)
record-wrong name table member (unread.Memory error) refused has e = absurd e

module _ (sizes : Sizes) (base : Paged) (name : List ℕ) (table : Table) where
  abbrev targets : List Finding → List TargetFinding
  targets = targets_of name table

  -- what is found in front of a record says nothing
  pub record StartsRecord (findings : List Finding) (course : Course) (row : Row) : Type 0 where
    pub later : List Finding
    pub follows : Follows sizes base TableTree later ends (behind_first course)
    pub right : IsRightRecord name table (member_with row.rowid row.payload) → AllRightTargets (targets later) → AllRightTargets (targets findings)
    pub wrong : (fault : InputFault) → IsRightRecord name table (member_with row.rowid row.payload) → FirstWrongTarget (targets later) fault → FirstWrongTarget (targets findings) fault
    pub here : (fault : InputFault) → IsWrongRecord name table (member_with row.rowid row.payload) fault → FirstWrongTarget (targets findings) fault

  record-behind : (finding : Finding) (findings : List Finding) (course : Course) (row : Row) → ((fault : InputFault) → ¬ IsWrongTarget (as_target name table finding) fault) → StartsRecord findings course row
      → StartsRecord (finding ∷ findings) course row
  record-behind finding findings course row silent starts = record {
    later = starts.later;
    follows = starts.follows;
    right = λ is later. (silent, starts.right is later);
    wrong = λ fault is later. inr (silent, starts.wrong fault is later);
    here = λ fault is. inr (silent, starts.here fault is);
  }

  pub record-found : (findings : List Finding) (course : Course) (row : Row) → Follows sizes base TableTree findings ends course → IsFirstOf sizes base course.spots (Some row) → StartsRecord findings course row
  record-found [] course row is first = absurd (subst (λ (c : Course). IsFirstOf sizes base c.spots (Some row)) is first)
  record-found (Finds page ∷ findings) course row is first = record-behind (Finds page) findings course row (λ fault wrong. wrong) (record-found findings course row is first)
  record-found (Ends page depth ∷ findings) course row is first = record-behind (Ends page depth) findings course row (λ fault wrong. wrong) (record-found findings course row is first)
  record-found (Bares page ∷ findings) course row is first = record-behind (Bares page) findings course row (λ fault wrong. wrong) (record-found findings course row is first)
  record-found (Holds page member ∷ findings) course row (spot, rest, held, on, same) first =
      let read = subst (λ (c : Course). IsFirstOf sizes base c.spots (Some row)) same first in
      let view = slice_index_or spot.page.views spot.at no_view in
      let rowid = sym (held.rowid_is no_view) ∙ sym (read no_view).0 in
      let payload = payload-one base.pages sizes.size sizes.usable base.count spot.page spot.at view member.payload row.payload (held.payload_is no_view) (read no_view).1 in
      let one : member ≡ member_with row.rowid row.payload = λ i. record { rowid = rowid i; payload = payload i } in record {
        later = findings;
        follows = subst⁻¹ (Follows sizes base TableTree findings ends) (ap behind_first same) on;
        right = λ is later. (subst⁻¹ (IsRightRecord name table) one is, later);
        wrong = λ fault is later. inr (subst⁻¹ (IsRightRecord name table) one is, later);
        here = λ fault is. inl (subst⁻¹ (λ (m : Member). IsWrongRecord name table m fault) one is);
      }
  record-found (Breaks page rule ∷ findings) course row (inl same) first = absurd (subst (λ (c : Course). IsFirstOf sizes base c.spots (Some row)) same first)
  record-found (Breaks page rule ∷ findings) course row (inr (spot, rest, torn, on, same)) first =
      let read = subst (λ (c : Course). IsFirstOf sizes base c.spots (Some row)) same first in
      let view = slice_index_or spot.page.views spot.at no_view in
      absurd (payload-not_broken base.pages sizes.size sizes.usable base.count spot.page spot.at view row.payload (read no_view).1 (torn no_view).0 page rule (torn no_view).1)
  record-found (Disorders page ∷ findings) course row is first = absurd (subst (λ (c : Course). IsFirstOf sizes base c.spots (Some row)) is first)

  silent-then : (finding : Finding) (findings : List Finding) (fault : InputFault) → ((other : InputFault) → ¬ IsWrongTarget (as_target name table finding) other) → FirstWrongTarget (targets findings) fault
      → FirstWrongTarget (targets (finding ∷ findings)) fault
  silent-then finding findings fault silent later = inr (silent, later)

  damage-here : (finding : Finding) (findings : List Finding) (page other : ℕ) (rule r : Rule) → stop_of finding ≡ Some (page, rule) → IsWrongTarget (as_target name table finding) (TreeDamaged page rule) → (page ≡ other) × (rule ≡ r)
      → FirstWrongTarget (targets (finding ∷ findings)) (TreeDamaged other r)
  damage-here finding findings page other rule r stop wrong same =
      subst (λ (k : Rule). FirstWrongTarget (targets (finding ∷ findings)) (TreeDamaged other k)) same.1 (subst (λ (p : ℕ). FirstWrongTarget (targets (finding ∷ findings)) (TreeDamaged p rule)) same.0 (inl wrong))

  pub stop-record : (findings : List Finding) (page : ℕ) (rule : Rule) → Follows sizes base TableTree findings ends (stops_at page rule) → FirstWrongTarget (targets findings) (TreeDamaged page rule)
  stop-record [] page rule is = absurd (end-not_stop page rule (sym is))
  stop-record (Finds p ∷ findings) page rule is = silent-then (Finds p) findings (TreeDamaged page rule) (λ other wrong. wrong) (stop-record findings page rule is)
  stop-record (Ends p depth ∷ findings) page rule is = silent-then (Ends p depth) findings (TreeDamaged page rule) (λ other wrong. wrong) (stop-record findings page rule is)
  stop-record (Bares p ∷ findings) page rule is = silent-then (Bares p) findings (TreeDamaged page rule) (λ other wrong. wrong) (stop-record findings page rule is)
  stop-record (Holds p m ∷ findings) page rule (spot, rest, held, on, same) = absurd (stop-not_cell page rule spot rest same)
  stop-record (Breaks p r ∷ findings) page rule (inl same) = damage-here (Breaks p r) findings p page r rule refl ((p, r), refl, refl) (stop-one p page r rule (sym same))
  stop-record (Breaks p r ∷ findings) page rule (inr (spot, rest, torn, on, same)) = absurd (stop-not_cell page rule spot rest same)
  stop-record (Disorders p ∷ findings) page rule is = damage-here (Disorders p) findings p page broken.Cells rule refl ((p, broken.Cells), refl, refl) (stop-one p page broken.Cells rule (sym is))

  pub torn-record : (findings : List Finding) (course : Course) (page : ℕ) (rule : Rule) → Follows sizes base TableTree findings ends course → IsBadFirst sizes base course.spots page rule
      → FirstWrongTarget (targets findings) (TreeDamaged page rule)
  torn-record [] course page rule is bad = absurd (subst (λ (c : Course). IsBadFirst sizes base c.spots page rule) is bad)
  torn-record (Finds p ∷ findings) course page rule is bad = silent-then (Finds p) findings (TreeDamaged page rule) (λ other wrong. wrong) (torn-record findings course page rule is bad)
  torn-record (Ends p depth ∷ findings) course page rule is bad = silent-then (Ends p depth) findings (TreeDamaged page rule) (λ other wrong. wrong) (torn-record findings course page rule is bad)
  torn-record (Bares p ∷ findings) course page rule is bad = silent-then (Bares p) findings (TreeDamaged page rule) (λ other wrong. wrong) (torn-record findings course page rule is bad)
  torn-record (Holds p m ∷ findings) course page rule (spot, rest, held, on, same) bad =
      let torn = subst (λ (c : Course). IsBadFirst sizes base c.spots page rule) same bad in
      let view = slice_index_or spot.page.views spot.at no_view in
      absurd (payload-not_broken base.pages sizes.size sizes.usable base.count spot.page spot.at view m.payload (held.payload_is no_view) (torn no_view).0 page rule (torn no_view).1)
  torn-record (Breaks p r ∷ findings) course page rule (inl same) bad = absurd (subst (λ (c : Course). IsBadFirst sizes base c.spots page rule) same bad)
  torn-record (Breaks p r ∷ findings) course page rule (inr (spot, rest, torn, on, same)) bad =
      let also = subst (λ (c : Course). IsBadFirst sizes base c.spots page rule) same bad in
      let view = slice_index_or spot.page.views spot.at no_view in
      damage-here (Breaks p r) findings p page r rule refl ((p, r), refl, refl)
      (bad_chain-one base.pages sizes.size sizes.usable base.count spot.page.number view.overflow (view.payload - view.local) p page r rule (torn no_view).1 (also no_view).1)
  torn-record (Disorders p ∷ findings) course page rule is bad = absurd (subst (λ (c : Course). IsBadFirst sizes base c.spots page rule) is bad)

  pub none-record : (findings : List Finding) → Follows sizes base TableTree findings ends ends → AllRightTargets (targets findings)
  none-record [] is = tt
  none-record (Finds page ∷ findings) is = (λ fault wrong. wrong, none-record findings is)
  none-record (Ends page depth ∷ findings) is = (λ fault wrong. wrong, none-record findings is)
  none-record (Bares page ∷ findings) is = (λ fault wrong. wrong, none-record findings is)
  none-record (Holds page member ∷ findings) (spot, rest, held, on, same) = absurd (end-not_cell spot rest same)
  none-record (Breaks page rule ∷ findings) (inl same) = absurd (end-not_stop page rule same)
  none-record (Breaks page rule ∷ findings) (inr (spot, rest, torn, on, same)) = absurd (end-not_cell spot rest same)
  none-record (Disorders page ∷ findings) is = absurd (end-not_stop page broken.Cells is)

  module _ (findings : List Finding) (old : Cursor) (remains : Remains sizes base TableTree findings old) where
    module _ (F : Type 0) (row : Row) (read : let one : Result (Option Row) (TreeFault F) = Ok (Some row) in ReadsFirst sizes base old one) where
      abbrev pub starts : StartsRecord findings remains.course row
      starts = record-found findings remains.course row remains.follows (read remains.course remains.stands)

      -- a record that is a row was left
      pub leaves-record : (T : Type 0) (moved : T) (new : Cursor) → IsRightRecord name table (member_with row.rowid row.payload) → (let on : Result T (TreeFault F) = Ok moved in MovesOver sizes base old new on)
          → LeavesRecord sizes base name table findings new
      leaves-record T moved new right moves = record {
        later = starts.later;
        remains = record { course = behind_first remains.course; stands = moves remains.course remains.stands; follows = starts.follows };
        right = starts.right right;
        wrong = λ fault later. starts.wrong fault right later;
      }

      -- one that is none was refused
      pub refuses-record : (fault : InputError) (told : StoreFault F) → told ≡ of_input_error fault → IsWant fault ⊎ Refuses (IsWrongRecord name table (member_with row.rowid row.payload)) fault
          → IsRefusedOrOther (FirstWrongTarget (targets findings)) told
      refuses-record fault told e wrong =
          refused-then (IsWrongRecord name table (member_with row.rowid row.payload)) (FirstWrongTarget (targets findings)) told starts.here
          (input-refused (IsWrongRecord name table (member_with row.rowid row.payload)) fault told e wrong)

      -- damage behind a record that is a row
      pub damage-behind : (T : Type 0) (fault : TreeFault F) (told : StoreFault F) (new : Cursor) → told ≡ of_tree_fault fault → IsRightRecord name table (member_with row.rowid row.payload)
          → (let on : Result T (TreeFault F) = Err fault in MovesOver sizes base old new on) → IsRefusedOrOther (FirstWrongTarget (targets findings)) told
      damage-behind T fault told new e right moves =
          damage-refused (λ page rule. behind_first remains.course ≡ stops_at page rule) (FirstWrongTarget (targets findings)) fault told e
          (λ page rule is. starts.wrong (TreeDamaged page rule) right (stop-record starts.later page rule (subst (Follows sizes base TableTree starts.later ends) is starts.follows))) (moves remains.course remains.stands)

    -- the record was not read
    pub damage-first : {F : Type 0} (fault : TreeFault F) (told : StoreFault F) → told ≡ of_tree_fault fault → (let one : Result (Option Row) (TreeFault F) = Err fault in ReadsFirst sizes base old one)
        → IsRefusedOrOther (FirstWrongTarget (targets findings)) told
    damage-first fault told e read =
        damage-refused (IsBadFirst sizes base remains.course.spots) (FirstWrongTarget (targets findings)) fault told e (λ page rule bad. torn-record findings remains.course page rule remains.follows bad) (read remains.course remains.stands)

    -- no record is left
    pub right-end : IsPast old → AllRightTargets (targets findings)
    right-end past = none-record findings (subst (Follows sizes base TableTree findings ends) (remains.stands.past past) remains.follows)

  -- damage comes before any record
  pub damage-at_root : {F : Type 0} (root : ℕ) (findings : List Finding) → IsWalk sizes base TableTree root findings → (fault : TreeFault F) (told : StoreFault F) → told ≡ of_tree_fault fault
      → (let stood : Result Cursor (TreeFault F) = Err fault in StartsWalk sizes base TableTree root stood) → IsRefusedOrOther (FirstWrongTarget (targets findings)) told
  damage-at_root root findings walk fault told e stood =
      let course = walk-course sizes base TableTree root findings walk in
      damage-refused (λ page rule. course.0 ≡ stops_at page rule) (FirstWrongTarget (targets findings)) fault told e
      (λ page rule is. stop-record findings page rule (subst (Follows sizes base TableTree findings ends) is course.2)) (stood course.0 course.1)

  -- what is left where a cursor stands, and what it says of all
  abbrev pub KeepsChecks : Cursor → Cursor → Type 0
  KeepsChecks start cursor = (findings : List Finding) → Remains sizes base TableTree findings start → LeavesRecord sizes base name table findings cursor

  pub checks-none : (cursor : Cursor) → KeepsChecks cursor cursor
  checks-none cursor = λ findings remains. record { later = findings; remains = remains; right = λ right. right; wrong = λ fault wrong. wrong }

  pub checks-next : (F : Type 0) (start old new : Cursor) → KeepsChecks start old → (let read : Result Bool (StoreFault F) = Ok true in ChecksNext sizes base name table old new read) → KeepsChecks start new
  checks-next F start old new keeps checks = λ findings remains.
      let kept = keeps findings remains in
      let leaves = checks kept.later kept.remains in
      record { later = leaves.later; remains = leaves.remains; right = λ right. kept.right (leaves.right right); wrong = λ fault wrong. kept.wrong fault (leaves.wrong fault wrong) }

  pub checks-end : (F : Type 0) (start old new : Cursor) → KeepsChecks start old → (let read : Result Bool (StoreFault F) = Ok false in ChecksNext sizes base name table old new read)
      → (let answer : Result Unit (StoreFault F) = Ok tt in ChecksFrom sizes base name table start answer)
  checks-end F start old new keeps checks = λ findings remains. let kept = keeps findings remains in kept.right (checks kept.later kept.remains)

  pub checks-fault : {F : Type 0} (start old new : Cursor) (fault : StoreFault F) → KeepsChecks start old → (let read : Result Bool (StoreFault F) = Err fault in ChecksNext sizes base name table old new read)
      → (let answer : Result Unit (StoreFault F) = Err fault in ChecksFrom sizes base name table start answer)
  checks-fault start old new fault keeps checks = λ findings remains.
      let kept = keeps findings remains in
      refused-then (FirstWrongTarget (targets kept.later)) (FirstWrongTarget (targets findings)) fault kept.wrong (checks kept.later kept.remains)
