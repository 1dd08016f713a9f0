-- What each step of a cursor leaves of a walk, whatever the store holds.
use Rattle.std.proofs.Common.{◌≡◌, ℕ, zero, suc, ◌+◌, ◌-◌, ◌<◌, ◌≤◌, Bool, true, false, cond, List, [], ◌∷◌, ◌++◌, length, reverse, slice_index_or, Some, None, Ok, Err, refl, ap, ◌∙◌, subst, arith, length-append}
use Rattle.std.proofs.Math.Path.{subst⁻¹}
use Rattle.format_spec.specs.declared.CellView.{CellView}
use Rattle.format_spec.specs.declared.PageKind.{PageKind}
use Rattle.format_spec.specs.declared.PageKind.TheVariants.{IndexInterior, TableInterior, IndexLeaf, TableLeaf}
use Rattle.page_spec.specs.Pages.{IsInRange}
use Rattle.tree_spec.specs.declared.fault.TreeFault.{TreeFault}
use Rattle.tree_spec.specs.Faults.{IsDamageOrOther}
use Rattle.tree_spec.specs.FaultsLaws.{damage-then}
use Rattle.tree_spec.specs.Standing.{Sizes, Paged}
use Rattle.tree_walk.specs.declared.place.Place.{Place}
use Rattle.tree_walk.specs.declared.path.Cursor.{Cursor}
use Rattle.tree_walk.specs.declared.cursor.Row.{Row}
use Rattle.tree_walk.specs.Payloads.{ReadsPayload}
use Rattle.tree_walk.specs.Pages.{view_of, has_dividers, is_leaf}
use Rattle.tree_walk.specs.Places.{child_at, most_above, IsBadStep, IsChild}
use Rattle.tree_walk.specs.Courses.{IsPast, Spot, Course, ends, stops, behind_first, spots_from, cells_left, cells_then, cell_then, next_of, OnLeaf, Enters, Behind, From, Below, FromCell, IsLater, IsOn, GoesFrom, StandsOn, IsFirstOf, IsBadFirst}
use Rattle.tree_walk.specs.CoursesLaws.{on_leaf, on_inner, to_leaf, to_inner, from_place, to_place}
use Rattle.tree_walk.proofs.Lists.{reverse-more, not_empty}

leaf_no_dividers : (kind : PageKind) → is_leaf kind ≡ true → has_dividers kind ≡ false
leaf_no_dividers TableLeaf leaf = refl
leaf_no_dividers TableInterior leaf = absurd (let e : false ≡ true = leaf in cc)
leaf_no_dividers IndexLeaf leaf = refl
leaf_no_dividers IndexInterior leaf = absurd (let e : false ≡ true = leaf in cc)

-- the cells of a leaf from a place on
cells-past : (place : Place) (later : Course) → length place.page.views ≤ place.at → cells_then place later ≡ later
cells-past place later past =
    let none : cells_left place ≡ 0 = omega arith in
    ap (λ (left : ℕ). let c : Course = record { spots = spots_from (view_of place.page) place.at left ++ later.spots; damage = later.damage } in c) none

cells-next : (place : Place) (later : Course) → place.at < length place.page.views → behind_first (cells_then place later) ≡ cells_then (next_of place) later
cells-next place later less =
    let one : cells_left place ≡ suc (cells_left (next_of place)) = omega arith in
    let at : suc place.at ≡ place.at + 1 = omega arith in
    ap (λ (left : ℕ). behind_first (record { spots = spots_from (view_of place.page) place.at left ++ later.spots; damage = later.damage })) one
    ∙ ap (λ (k : ℕ). let c : Course = record { spots = spots_from (view_of place.page) k (cells_left (next_of place)) ++ later.spots; damage = later.damage } in c) at

-- the cell of an interior page
pub cell-divider : (place : Place) (later : Course) → has_dividers place.page.kind ≡ true → cell_then place later ≡ later
cell-divider place later divider =
    ap (λ (b : Bool). cond b later (record { spots = record { page = view_of place.page; at = place.at } ∷ later.spots; damage = later.damage })) divider

cell-entry : (place : Place) (later : Course) → has_dividers place.page.kind ≡ false → behind_first (cell_then place later) ≡ later
cell-entry place later entry =
    ap (λ (b : Bool). behind_first (cond b later (record { spots = record { page = view_of place.page; at = place.at } ∷ later.spots; damage = later.damage }))) entry

module _ (sizes : Sizes) (base : Paged) where
  -- the walk from a place on, by the room below it
  abbrev pub FromChild : ℕ → Place → Course → Course → Type 0
  FromChild room place later course = (behind : Course)
      × (Behind sizes base (Below sizes base room) (most_above - room) (cells_left place) place later behind × Enters sizes base (Below sizes base room) (most_above - room) place behind course)

  from_child : (room : ℕ) (place : Place) (later course : Course) → is_leaf place.page.kind ≡ false → From sizes base room place later course → FromChild room place later course
  from_child room place later course inner from = on_inner (is_leaf place.page.kind) (course ≡ cells_then place later) (FromChild room place later course) inner (from_place sizes base room place later course from)

  entered_by : (course : Course) (old new : Cursor) (room : ℕ) → room + length old.above.items ≡ most_above → (later : Course) → IsLater sizes base room (reverse old.above.items) later
      → FromChild room old.here later course → new.above.items ≡ old.above.items ++ old.here ∷ [] → length old.above.items < most_above → IsInRange sizes.size base.count (child_at old.here)
      → IsChild base.pages sizes.usable old.here new.here → GoesFrom sizes base course new
  entered_by course old new zero deep later is_later from above_are few in_range child = absurd (omega (arith, deep, few))
  entered_by course old new (suc room) deep later is_later from above_are few in_range child = record {
    is_on = record {
      room = room;
      deep = omega (arith, deep, ap length above_are, length-append old.above.items (old.here ∷ []));
      later = from.0;
      is_later = subst⁻¹ (λ (places : List Place). IsLater sizes base room places from.0) (ap reverse above_are ∙ reverse-more old.above.items old.here) (later, (is_later, from.1.0));
      from_here = from.1.1.entered new.here in_range (omega (arith, deep, few)) child;
    };
    past = λ leaf past. absurd (omega (arith, past, child.entered.first, not_empty new.here.page.views child.some));
  }

  -- a step down
  pub step-entered : (course : Course) (old new : Cursor) → is_leaf old.here.page.kind ≡ false → new.above.items ≡ old.above.items ++ old.here ∷ [] → length old.above.items < most_above
      → IsInRange sizes.size base.count (child_at old.here) → IsChild base.pages sizes.usable old.here new.here → GoesFrom sizes base course old → GoesFrom sizes base course new
  step-entered course old new inner above_are few in_range child goes =
      let on = goes.is_on in
      entered_by course old new on.room on.deep on.later on.is_later (from_child on.room old.here on.later course inner on.from_here) above_are few in_range child

  -- a step that is refused
  pub step-refused : {F : Type 0} (course : Course) (old : Cursor) (fault : TreeFault F) → is_leaf old.here.page.kind ≡ false
      → IsDamageOrOther (IsBadStep base.pages sizes.size sizes.usable base.count old.here (length old.above.items)) fault → GoesFrom sizes base course old
      → IsDamageOrOther (λ page rule. course ≡ stops page rule) fault
  step-refused course old fault inner bad goes =
      let on = goes.is_on in
      let from = from_child on.room old.here on.later course inner on.from_here in
      let above : length old.above.items ≡ most_above - on.room = omega (arith, on.deep) in
      damage-then (IsBadStep base.pages sizes.size sizes.usable base.count old.here (length old.above.items)) (λ page rule. course ≡ stops page rule)
      (λ page rule bad. from.1.1.refused page rule (subst (λ (n : ℕ). IsBadStep base.pages sizes.size sizes.usable base.count old.here n page rule) above bad)) fault bad

  -- in a leaf a cursor that came down stands at the first cell
  pub leaf-stands : (course : Course) (cursor : Cursor) → is_leaf cursor.here.page.kind ≡ true → GoesFrom sizes base course cursor → StandsOn sizes base course cursor
  leaf-stands course cursor leaf goes =
      let on = goes.is_on in
      let place = cursor.here in
      let cells : course ≡ cells_then place on.later =
      on_leaf (is_leaf place.page.kind) (course ≡ cells_then place on.later) (FromChild on.room place on.later course) leaf (from_place sizes base on.room place on.later course on.from_here) in
      record {
        is_on = record {
          room = on.room;
          deep = on.deep;
          later = on.later;
          is_later = on.is_later;
          from_here = to_leaf (is_leaf place.page.kind) (course ≡ cells_then place on.later) (Behind sizes base (Below sizes base on.room) (most_above - on.room) (cells_left place) place on.later course) leaf cells;
        };
        cell = λ divider. absurd (let none = leaf_no_dividers place.page.kind leaf in cc);
        past = λ past. cells ∙ cells-past place on.later past ∙ goes.past leaf past;
      }

  -- past the cells of a page what is behind it is left
  past_later : (room : ℕ) (place : Place) (later course : Course) → length place.page.views ≤ place.at → FromCell sizes base room place later course → course ≡ later
  past_later room place later course past from = by (is_leaf place.page.kind) from
    where
      by : (leaf : Bool) → OnLeaf leaf (course ≡ cells_then place later) (Behind sizes base (Below sizes base room) (most_above - room) (cells_left place) place later course) → course ≡ later
      by true is = is ∙ cells-past place later past
      by false is =
          let none : cells_left place ≡ 0 = omega (arith, past) in subst (λ (left : ℕ). Behind sizes base (Below sizes base room) (most_above - room) left place later course) none is

  -- leaving a page of which nothing is left
  pub left-up : (course : Course) (old new : Cursor) (parent : Place) → IsPast old → old.above.items ≡ new.above.items ++ parent ∷ [] → new.here ≡ parent → is_leaf parent.page.kind ≡ false
      → IsOn sizes base (FromCell sizes base) course old → IsOn sizes base (FromCell sizes base) course new
  left-up course old new parent past above_are here_is inner on =
      let up = subst (λ (places : List Place). IsLater sizes base on.room places on.later) (ap reverse above_are ∙ reverse-more new.above.items parent) on.is_later in
      let same : course ≡ on.later = past_later on.room old.here on.later course past on.from_here in
      let behind = subst⁻¹ (λ (c : Course). Behind sizes base (Below sizes base (suc on.room)) (most_above - suc on.room) (cells_left parent) parent up.0 c) same up.1.1 in
      record {
        room = suc on.room;
        deep = omega (arith, on.deep, ap length above_are, length-append new.above.items (parent ∷ []));
        later = up.0;
        is_later = up.1.0;
        from_here = subst⁻¹ (λ (place : Place). FromCell sizes base (suc on.room) place up.0 course) here_is
            (to_inner (is_leaf parent.page.kind) (course ≡ cells_then parent up.0) (Behind sizes base (Below sizes base (suc on.room)) (most_above - suc on.room) (cells_left parent) parent up.0 course) inner behind);
      }

  nothing_later : (room : ℕ) (places : List Place) (later : Course) → places ≡ [] → IsLater sizes base room places later → later ≡ ends
  nothing_later room places later none is = subst (λ (p : List Place). IsLater sizes base room p later) none is

  -- past the last cell
  pub past-stands : (course : Course) (cursor : Cursor) → IsPast cursor → cursor.above.items ≡ [] → IsOn sizes base (FromCell sizes base) course cursor → StandsOn sizes base course cursor
  past-stands course cursor past none on = record {
    is_on = on;
    cell = λ divider. past;
    past = λ again. past_later on.room cursor.here on.later course past on.from_here ∙ nothing_later on.room (reverse cursor.above.items) on.later (ap reverse none) on.is_later;
  }

  -- at a cell that is a member
  pub cell-stands : (course : Course) (cursor : Cursor) → ¬ IsPast cursor → has_dividers cursor.here.page.kind ≡ false → IsOn sizes base (FromCell sizes base) course cursor → StandsOn sizes base course cursor
  cell-stands course cursor not_past none on = record {
    is_on = on;
    cell = λ divider. absurd (let e : has_dividers cursor.here.page.kind ≡ true = divider in cc);
    past = λ past. absurd (not_past past);
  }

  -- a cursor at the same place
  pub same-on : (course : Course) (old new : Cursor) → new.above.items ≡ old.above.items → new.here ≡ old.here → IsOn sizes base (FromCell sizes base) course old → IsOn sizes base (FromCell sizes base) course new
  same-on course old new above_are here_is on = record {
    room = on.room;
    deep = omega (arith, on.deep, ap length above_are);
    later = on.later;
    is_later = subst⁻¹ (λ (places : List Place). IsLater sizes base on.room (reverse places) on.later) above_are on.is_later;
    from_here = subst⁻¹ (λ (place : Place). FromCell sizes base on.room place on.later course) here_is on.from_here;
  }

  -- The next cell or child of the page.
  module _ (old new : Cursor) (above_are : new.above.items ≡ old.above.items) (here_is : new.here ≡ next_of old.here) (not_past : ¬ IsPast old) where
    at_next : (FromHere : ℕ → Place → Course → Course → Type 0) (course : Course) (room : ℕ) → room + length old.above.items ≡ most_above → (later : Course)
        → IsLater sizes base room (reverse old.above.items) later → FromHere room (next_of old.here) later course → IsOn sizes base FromHere course new
    at_next FromHere course room deep later is_later from = record {
      room = room;
      deep = omega (arith, deep, ap length above_are);
      later = later;
      is_later = subst⁻¹ (λ (places : List Place). IsLater sizes base room (reverse places) later) above_are is_later;
      from_here = subst⁻¹ (λ (place : Place). FromHere room place later course) here_is from;
    }

    -- of a leaf
    pub leaf-next : (course : Course) → is_leaf old.here.page.kind ≡ true → StandsOn sizes base course old → IsOn sizes base (FromCell sizes base) (behind_first course) new
    leaf-next course leaf stands =
        let on = stands.is_on in
        let place = old.here in
        let cells = on_leaf (is_leaf place.page.kind) (course ≡ cells_then place on.later) (Behind sizes base (Below sizes base on.room) (most_above - on.room) (cells_left place) place on.later course) leaf on.from_here in
        at_next (FromCell sizes base) (behind_first course) on.room on.deep on.later on.is_later
        (to_leaf (is_leaf place.page.kind) (behind_first course ≡ cells_then (next_of place) on.later)
        (Behind sizes base (Below sizes base on.room) (most_above - on.room) (cells_left (next_of place)) (next_of place) on.later (behind_first course)) leaf
        (ap behind_first cells ∙ cells-next place on.later (omega (arith, not_past))))

    -- what is behind the cell of an interior page
    record BehindCell (course : Course) : Type 0 where
      pub rest : Course
      pub goes : IsOn sizes base (From sizes base) rest new
      pub course_is : course ≡ cell_then old.here rest

    behind_cell : (course : Course) → is_leaf old.here.page.kind ≡ false → IsOn sizes base (FromCell sizes base) course old → BehindCell course
    behind_cell course inner on =
        let place = old.here in
        let behind = on_inner (is_leaf place.page.kind) (course ≡ cells_then place on.later) (Behind sizes base (Below sizes base on.room) (most_above - on.room) (cells_left place) place on.later course) inner on.from_here in
        let one : cells_left place ≡ suc (cells_left (next_of place)) = omega (arith, not_past) in
        let parts = subst (λ (left : ℕ). Behind sizes base (Below sizes base on.room) (most_above - on.room) left place on.later course) one behind in
        record {
          rest = parts.0;
          goes = at_next (From sizes base) parts.0 on.room on.deep on.later on.is_later
              (to_place sizes base on.room (next_of place) on.later parts.0
              (to_inner (is_leaf place.page.kind) (parts.0 ≡ cells_then (next_of place) on.later) (FromChild on.room (next_of place) on.later parts.0) inner parts.1));
          course_is = parts.2;
        }

    inner_goes : (course : Course) → is_leaf old.here.page.kind ≡ false → IsOn sizes base (From sizes base) course new → GoesFrom sizes base course new
    inner_goes course inner on = record {
      is_on = on;
      past = λ leaf past. absurd (let kind : is_leaf new.here.page.kind ≡ false = ap (λ (p : Place). is_leaf p.page.kind) here_is ∙ inner in cc);
    }

    -- behind a divider
    pub divider-goes : (course : Course) → has_dividers old.here.page.kind ≡ true → IsOn sizes base (FromCell sizes base) course old → GoesFrom sizes base course new
    divider-goes course divider on =
        let inner = divider_inner old.here.page.kind divider in
        let b = behind_cell course inner on in
        let same : course ≡ b.rest = b.course_is ∙ cell-divider old.here b.rest divider in
        inner_goes course inner (subst⁻¹ (λ (c : Course). IsOn sizes base (From sizes base) c new) same b.goes)
      where
        divider_inner : (kind : PageKind) → has_dividers kind ≡ true → is_leaf kind ≡ false
        divider_inner TableLeaf has = absurd (let e : false ≡ true = has in cc)
        divider_inner TableInterior has = refl
        divider_inner IndexLeaf has = absurd (let e : false ≡ true = has in cc)
        divider_inner IndexInterior has = refl

    -- behind an entry of an index
    pub entry-goes : (course : Course) → is_leaf old.here.page.kind ≡ false → StandsOn sizes base course old → GoesFrom sizes base (behind_first course) new
    entry-goes course inner stands =
        let b = behind_cell course inner stands.is_on in
        let entry = no_divider (has_dividers old.here.page.kind) (λ divider. not_past (stands.cell divider)) in
        let same : behind_first course ≡ b.rest = ap behind_first b.course_is ∙ cell-entry old.here b.rest entry in
        inner_goes (behind_first course) inner (subst⁻¹ (λ (c : Course). IsOn sizes base (From sizes base) c new) same b.goes)
      where
        no_divider : (b : Bool) → (b ≡ true → ⊥) → b ≡ false
        no_divider true none = absurd (none refl)
        no_divider false none = refl

  -- past the last cell the cursor stays
  pub past-stays : (course : Course) (cursor : Cursor) → IsPast cursor → StandsOn sizes base course cursor → StandsOn sizes base (behind_first course) cursor
  past-stays course cursor past stands =
      let none = stands.past past in
      subst⁻¹ (λ (c : Course). StandsOn sizes base (behind_first c) cursor) none (subst (λ (c : Course). StandsOn sizes base c cursor) none stands)

  -- the cursor in a root
  pub root-goes : (course : Course) (place : Place) (cursor : Cursor) → cursor.above.items ≡ [] → cursor.here ≡ place → From sizes base most_above place ends course → GoesFrom sizes base course cursor
  root-goes course place cursor none here_is from = record {
    is_on = record {
      room = most_above;
      deep = omega (arith, ap length none);
      later = ends;
      is_later = subst⁻¹ (λ (places : List Place). IsLater sizes base most_above (reverse places) ends) none refl;
      from_here = subst⁻¹ (λ (p : Place). From sizes base most_above p ends course) here_is from;
    };
    past = λ leaf past. refl;
  }

  -- Rows.

  -- a cursor that is not past the last cell stands at the first of its course
  pub stands-first : (course : Course) (cursor : Cursor) → ¬ IsPast cursor → StandsOn sizes base course cursor
      → (rest : List Spot) × (course.spots ≡ record { page = view_of cursor.here.page; at = cursor.here.at } ∷ rest)
  stands-first course cursor not_past stands = by (is_leaf cursor.here.page.kind) (has_dividers cursor.here.page.kind) (λ divider. not_past (stands.cell divider)) refl stands.is_on.from_here
    where
      by : (leaf divider : Bool) → (divider ≡ true → ⊥) → has_dividers cursor.here.page.kind ≡ divider
          → OnLeaf leaf (course ≡ cells_then cursor.here stands.is_on.later)
          (Behind sizes base (Below sizes base stands.is_on.room) (most_above - stands.is_on.room) (cells_left cursor.here) cursor.here stands.is_on.later course)
          → (rest : List Spot) × (course.spots ≡ record { page = view_of cursor.here.page; at = cursor.here.at } ∷ rest)
      by true divider none is here =
          let one : cells_left cursor.here ≡ suc (cells_left (next_of cursor.here)) = omega (arith, not_past) in (
            spots_from (view_of cursor.here.page) (suc cursor.here.at) (cells_left (next_of cursor.here)) ++ stands.is_on.later.spots,
            ap (λ (c : Course). c.spots) here ∙ ap (λ (left : ℕ). spots_from (view_of cursor.here.page) cursor.here.at left ++ stands.is_on.later.spots) one,
          )
      by false true none is here = absurd (none refl)
      by false false none is here =
          let one : cells_left cursor.here ≡ suc (cells_left (next_of cursor.here)) = omega (arith, not_past) in
          let parts = subst (λ (left : ℕ). Behind sizes base (Below sizes base stands.is_on.room) (most_above - stands.is_on.room) left cursor.here stands.is_on.later course) one here in (
            parts.0.spots,
            ap (λ (c : Course). c.spots) parts.2
                ∙ ap (λ (b : Bool). let c : Course = cond b parts.0 (record { spots = record { page = view_of cursor.here.page; at = cursor.here.at } ∷ parts.0.spots; damage = parts.0.damage }) in c.spots) is,
          )

  pub row-first : (F : Type 0) (course : Course) (cursor : Cursor) → ¬ IsPast cursor → StandsOn sizes base course cursor → (row : Row)
      → ((d : CellView) → row.rowid ≡ (slice_index_or cursor.here.page.views cursor.here.at d).rowid)
      → ReadsPayload base.pages sizes.size sizes.usable base.count {F = F} cursor.here.page cursor.here.at (Ok row.payload) → IsFirstOf sizes base course.spots (Some row)
  row-first F course cursor not_past stands row rowid payload =
      let first = stands-first course cursor not_past stands in
      subst⁻¹ (λ (spots : List Spot). IsFirstOf sizes base spots (Some row)) first.1 (λ d. (rowid d, payload d))

  pub row-refused : {F : Type 0} (course : Course) (cursor : Cursor) → ¬ IsPast cursor → StandsOn sizes base course cursor → (fault : TreeFault F)
      → ReadsPayload base.pages sizes.size sizes.usable base.count cursor.here.page cursor.here.at (Err fault) → IsDamageOrOther (IsBadFirst sizes base course.spots) fault
  row-refused course cursor not_past stands fault bad =
      let first = stands-first course cursor not_past stands in
      subst⁻¹ (λ (spots : List Spot). IsDamageOrOther (IsBadFirst sizes base spots) fault) first.1 bad

  pub row-none : (course : Course) (cursor : Cursor) → IsPast cursor → StandsOn sizes base course cursor → IsFirstOf sizes base course.spots None
  row-none course cursor past stands = subst⁻¹ (λ (c : Course). IsFirstOf sizes base c.spots None) (stands.past past) tt
