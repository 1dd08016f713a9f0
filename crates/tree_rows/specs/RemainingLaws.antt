-- What a cursor makes of what is left of its walk: crates above cite these facts in their proofs.
use Rattle.std.proofs.Common.{◌≡◌, ℕ, ◌-◌, List, [], ◌∷◌, Option, Some, None, Result, Ok, Err, slice_index_or, refl, sym, ap, ◌∙◌, subst, inl, inr}
use Rattle.std.proofs.Math.Path.{subst⁻¹}
use Rattle.common_spec.specs.Reading.{OrFault}
use Rattle.refusal.specs.declared.Rule.{Rule}
use Rattle.refusal.specs.declared.Rule.TheVariants as broken
use Rattle.tree_spec.specs.declared.TreeKind.{TreeKind}
use Rattle.tree_spec.specs.declared.fault.TreeFault.{TreeFault}
use Rattle.tree_spec.specs.Faults.{IsDamageOrOther}
use Rattle.tree_spec.specs.FaultsLaws.{damage-then}
use Rattle.tree_spec.specs.Standing.{Sizes, Paged}
use Rattle.tree_spec.specs.Trees.{Member}
use Rattle.tree_walk.specs.declared.path.Cursor.{Cursor}
use Rattle.tree_walk.specs.declared.cursor.Row.{Row}
use Rattle.tree_walk.specs.Courses.{IsPast, Spot, Damage, Course, ends, stops as stops_at, behind_first, IsFirstOf, IsBadFirst, MovesOver, ReadsFirst, StartsWalk}
use Rattle.tree_walk.specs.PayloadsLaws.{bad_chain-one, no_view, payload-not_broken, payload-one}
use Rattle.tree_walk.specs.Walks.{IsMember}
use Rattle.database_spec.specs.Walks.{Finding, Finds, Ends, Holds, Breaks, Disorders, Bares, IsWalk, members_found, stops}
use Rattle.tree_rows.specs.CoursesLaws.{walk-course}
use Rattle.tree_rows.specs.Remaining.{cell_before, IsTornSpot, Follows, Remains}
use Rattle.tree_rows.specs.Rows.{member_of, IsFirstStop}

-- a course that ends has no cell, and does not stop
not_cell : (spot : Spot) (rest : Course) → ends ≡ cell_before spot rest → ⊥
not_cell spot rest same = let none : ◌≡◌ {A = List Spot} [] (spot ∷ rest.spots) = ap (λ (c : Course). c.spots) same in cc

not_stop : (page : ℕ) (rule : Rule) → ends ≡ stops_at page rule → ⊥
not_stop page rule same = let none : ◌≡◌ {A = Option Damage} None (Some (record { page = page; rule = rule })) = ap (λ (c : Course). c.damage) same in cc

stop_not_cell : (page : ℕ) (rule : Rule) (spot : Spot) (rest : Course) → stops_at page rule ≡ cell_before spot rest → ⊥
stop_not_cell page rule spot rest same = let none : ◌≡◌ {A = List Spot} [] (spot ∷ rest.spots) = ap (λ (c : Course). c.spots) same in cc

-- a course stops in one place
damage_or : Option Damage → Damage → Damage
damage_or None other = other
damage_or (Some damage) other = damage

stop-one : (page other : ℕ) (r s : Rule) → stops_at page r ≡ stops_at other s → (page ≡ other) × (r ≡ s)
unfolding damage_or
stop-one page other r s same =
    let any : Damage = record { page = 0; rule = broken.Kind } in
    (ap (λ (c : Course). (damage_or c.damage any).page) same, ap (λ (c : Course). (damage_or c.damage any).rule) same)

-- what has the first stop where nothing stops before it
first-stop : (page other : ℕ) (r s : Rule) (later : List (ℕ × Rule)) → (page ≡ other) × (r ≡ s) → ◌≡◌ {A = List (ℕ × Rule)} ((page, r) ∷ later) ((other, s) ∷ later)
first-stop page other r s later same = λ i. (same.0 i, same.1 i) ∷ later

module _ (sizes : Sizes) (base : Paged) (kind : TreeKind) where
  -- a cell that is a member has no broken chain
  member-not_torn : (spot : Spot) (m : Member) → IsMember sizes base kind spot m → (page : ℕ) (rule : Rule) → IsTornSpot sizes base kind spot page rule → ⊥
  member-not_torn spot m is page rule torn =
      let view = slice_index_or spot.page.views spot.at no_view in
      payload-not_broken base.pages sizes.size sizes.usable base.count spot.page spot.at view m.payload (is.payload_is no_view) (torn no_view).0 page rule (torn no_view).1

  -- nothing is left of a walk that comes to its end
  pub nothing-left : (findings : List Finding) → Follows sizes base kind findings ends ends → (members_found findings ≡ []) × (stops findings ≡ [])
  nothing-left [] is = (refl, refl)
  nothing-left (Finds page ∷ findings) is = nothing-left findings is
  nothing-left (Ends page depth ∷ findings) is = nothing-left findings is
  nothing-left (Bares page ∷ findings) is = nothing-left findings is
  nothing-left (Holds page m ∷ findings) (spot, rest, held, on, same) = absurd (not_cell spot rest same)
  nothing-left (Breaks page rule ∷ findings) (inl same) = absurd (not_stop page rule same)
  nothing-left (Breaks page rule ∷ findings) (inr (spot, rest, torn, on, same)) = absurd (not_cell spot rest same)
  nothing-left (Disorders page ∷ findings) is = absurd (not_stop page broken.Cells is)

  -- the first stop is where the course stops that comes to no cell before
  pub stops-there : (findings : List Finding) (page : ℕ) (rule : Rule) → Follows sizes base kind findings ends (stops_at page rule) → IsFirstStop findings page rule
  stops-there [] page rule is = absurd (not_stop page rule (sym is))
  stops-there (Finds p ∷ findings) page rule is = stops-there findings page rule is
  stops-there (Ends p depth ∷ findings) page rule is = stops-there findings page rule is
  stops-there (Bares p ∷ findings) page rule is = stops-there findings page rule is
  stops-there (Holds p m ∷ findings) page rule (spot, rest, held, on, same) = absurd (stop_not_cell page rule spot rest same)
  stops-there (Breaks p r ∷ findings) page rule (inl same) = (stops findings, first-stop p page r rule (stops findings) (stop-one p page r rule (sym same)))
  stops-there (Breaks p r ∷ findings) page rule (inr (spot, rest, torn, on, same)) = absurd (stop_not_cell page rule spot rest same)
  stops-there (Disorders p ∷ findings) page rule is = (stops findings, first-stop p page broken.Cells rule (stops findings) (stop-one p page broken.Cells rule (sym is)))

  -- what is left behind a row that was read of the first cell
  pub record IsTaken (findings : List Finding) (course : Course) (row : Row) : Type 0 where
    pub rest : List Finding
    pub follows : Follows sizes base kind rest ends (behind_first course)
    pub members : members_found findings ≡ member_of row ∷ members_found rest
    pub stops_are : stops findings ≡ stops rest

  pub row-taken : (findings : List Finding) (course : Course) (row : Row) → Follows sizes base kind findings ends course → IsFirstOf sizes base course.spots (Some row) → IsTaken findings course row
  row-taken [] course row is first = absurd (subst (λ (c : Course). IsFirstOf sizes base c.spots (Some row)) is first)
  row-taken (Finds page ∷ findings) course row is first =
      let on = row-taken findings course row is first in record { rest = on.rest; follows = on.follows; members = on.members; stops_are = on.stops_are }
  row-taken (Ends page depth ∷ findings) course row is first =
      let on = row-taken findings course row is first in record { rest = on.rest; follows = on.follows; members = on.members; stops_are = on.stops_are }
  row-taken (Bares page ∷ findings) course row is first =
      let on = row-taken findings course row is first in record { rest = on.rest; follows = on.follows; members = on.members; stops_are = on.stops_are }
  row-taken (Holds page m ∷ findings) course row (spot, rest, held, on, same) first =
      let read = subst (λ (c : Course). IsFirstOf sizes base c.spots (Some row)) same first in
      let view = slice_index_or spot.page.views spot.at no_view in
      let rowid = sym (held.rowid_is no_view) ∙ sym (read no_view).0 in
      let payload = payload-one base.pages sizes.size sizes.usable base.count spot.page spot.at view m.payload row.payload (held.payload_is no_view) (read no_view).1 in
      record {
        rest = findings;
        follows = subst⁻¹ (Follows sizes base kind findings ends) (ap behind_first same) on;
        members = λ i. record { rowid = rowid i; payload = payload i } ∷ members_found findings;
        stops_are = refl;
      }
  row-taken (Breaks page rule ∷ findings) course row (inl same) first = absurd (subst (λ (c : Course). IsFirstOf sizes base c.spots (Some row)) same first)
  row-taken (Breaks page rule ∷ findings) course row (inr (spot, rest, torn, on, same)) first =
      let read = subst (λ (c : Course). IsFirstOf sizes base c.spots (Some row)) same first in
      let view = slice_index_or spot.page.views spot.at no_view in
      absurd (payload-not_broken base.pages sizes.size sizes.usable base.count spot.page spot.at view row.payload (read no_view).1 (torn no_view).0 page rule (torn no_view).1)
  row-taken (Disorders page ∷ findings) course row is first = absurd (subst (λ (c : Course). IsFirstOf sizes base c.spots (Some row)) is first)

  -- the first stop is a broken chain of the first cell
  pub row-torn : (findings : List Finding) (course : Course) (page : ℕ) (rule : Rule) → Follows sizes base kind findings ends course → IsBadFirst sizes base course.spots page rule → IsFirstStop findings page rule
  row-torn [] course page rule is bad = absurd (subst (λ (c : Course). IsBadFirst sizes base c.spots page rule) is bad)
  row-torn (Finds p ∷ findings) course page rule is bad = row-torn findings course page rule is bad
  row-torn (Ends p depth ∷ findings) course page rule is bad = row-torn findings course page rule is bad
  row-torn (Bares p ∷ findings) course page rule is bad = row-torn findings course page rule is bad
  row-torn (Holds p m ∷ findings) course page rule (spot, rest, held, on, same) bad =
      absurd (member-not_torn spot m held page rule (subst (λ (c : Course). IsBadFirst sizes base c.spots page rule) same bad))
  row-torn (Breaks p r ∷ findings) course page rule (inl same) bad = absurd (subst (λ (c : Course). IsBadFirst sizes base c.spots page rule) same bad)
  row-torn (Breaks p r ∷ findings) course page rule (inr (spot, rest, torn, on, same)) bad =
      let also = subst (λ (c : Course). IsBadFirst sizes base c.spots page rule) same bad in
      let view = slice_index_or spot.page.views spot.at no_view in
      let one = bad_chain-one base.pages sizes.size sizes.usable base.count spot.page.number view.overflow (view.payload - view.local) p page r rule (torn no_view).1 (also no_view).1 in
      (stops findings, first-stop p page r rule (stops findings) one)
  row-torn (Disorders p ∷ findings) course page rule is bad = absurd (subst (λ (c : Course). IsBadFirst sizes base c.spots page rule) is bad)

  -- where a cursor stands at the start of a walk all is left that it finds, or the first stop is met
  pub first-remains : {F : Type 0} (root : ℕ) (findings : List Finding) → IsWalk sizes base kind root findings → (result : Result Cursor (TreeFault F)) → StartsWalk sizes base kind root result
      → OrFault (Remains sizes base kind findings) (IsDamageOrOther (IsFirstStop findings)) result
  first-remains root findings walk (Ok cursor) stood =
      let found = walk-course sizes base kind root findings walk in record { course = found.0; stands = stood found.0 found.1; follows = found.2 }
  first-remains root findings walk (Err fault) stood =
      let found = walk-course sizes base kind root findings walk in
      damage-then (λ page rule. found.0 ≡ stops_at page rule) (IsFirstStop findings)
      (λ page rule is. stops-there findings page rule (subst (Follows sizes base kind findings ends) is found.2)) fault (stood found.0 found.1)

  module _ (findings : List Finding) (cursor : Cursor) (remains : Remains sizes base kind findings cursor) where
    -- past the last member nothing is left
    pub past-remains : IsPast cursor → (members_found findings ≡ []) × (stops findings ≡ [])
    past-remains past = nothing-left findings (subst (Follows sizes base kind findings ends) (remains.stands.past past) remains.follows)

    -- the row that is read is the first member
    pub row-remains : (F : Type 0) (row : Row) → (let read : Result (Option Row) (TreeFault F) = Ok (Some row) in ReadsFirst sizes base cursor read) → IsTaken findings remains.course row
    row-remains F row reads = row-taken findings remains.course row remains.follows (reads remains.course remains.stands)

    -- a row that is refused is the first stop
    pub torn-remains : {F : Type 0} (fault : TreeFault F) → (let read : Result (Option Row) (TreeFault F) = Err fault in ReadsFirst sizes base cursor read) → IsDamageOrOther (IsFirstStop findings) fault
    torn-remains fault reads =
        damage-then (IsBadFirst sizes base remains.course.spots) (IsFirstStop findings) (λ page rule bad. row-torn findings remains.course page rule remains.follows bad) fault (reads remains.course remains.stands)

    -- behind a row the rest is left, or the first stop is met
    pub next-remains : (T F : Type 0) (row : Row) (taken : IsTaken findings remains.course row) (new : Cursor) (moved : T) → (let on : Result T (TreeFault F) = Ok moved in MovesOver sizes base cursor new on) → Remains sizes base kind taken.rest new
    next-remains T F row taken new moved moves = record { course = behind_first remains.course; stands = moves remains.course remains.stands; follows = taken.follows }

    pub stopped-remains : (T F : Type 0) (row : Row) (taken : IsTaken findings remains.course row) (new : Cursor) (fault : TreeFault F) → (let on : Result T (TreeFault F) = Err fault in MovesOver sizes base cursor new on)
        → IsDamageOrOther (IsFirstStop findings) fault
    stopped-remains T F row taken new fault moves =
        damage-then (λ page rule. behind_first remains.course ≡ stops_at page rule) (IsFirstStop findings)
        (λ page rule is.
        let there = stops-there taken.rest page rule (subst (Follows sizes base kind taken.rest ends) is taken.follows) in
        (there.0, taken.stops_are ∙ there.1)) fault (moves remains.course remains.stands)

    -- past the last member no stop is met
    pub ended-remains : (T F : Type 0) → IsPast cursor → (new : Cursor) (fault : TreeFault F) → (let on : Result T (TreeFault F) = Err fault in MovesOver sizes base cursor new on) → IsDamageOrOther (IsFirstStop findings) fault
    ended-remains T F past new fault moves =
        damage-then (λ page rule. behind_first remains.course ≡ stops_at page rule) (IsFirstStop findings)
        (λ page rule is. absurd (not_stop page rule (sym (ap behind_first (remains.stands.past past)) ∙ is))) fault (moves remains.course remains.stands)
