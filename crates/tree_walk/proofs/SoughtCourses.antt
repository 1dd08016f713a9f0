-- How a cursor comes to where a rowid belongs, whatever the store holds.
use Rattle.std.proofs.Common.{◌≡◌, ℕ, ℤ, zero, suc, ◌+◌, ◌-◌, ◌<◌, true, false, List, [], ◌∷◌, ◌++◌, length, reverse, Option, refl, ap, ap₂, ◌∙◌, subst, arith, length-append}
use Rattle.std.proofs.Math.Path.{subst⁻¹}
use Rattle.page_spec.specs.Pages.{IsInRange}
use Rattle.tree_spec.specs.declared.fault.TreeFault.{TreeFault}
use Rattle.tree_spec.specs.Faults.{IsDamageOrOther}
use Rattle.tree_spec.specs.FaultsLaws.{damage-then}
use Rattle.tree_spec.specs.Standing.{Sizes, Paged}
use Rattle.tree_walk.specs.declared.page.TreePage.{TreePage}
use Rattle.tree_walk.specs.declared.place.Place.{Place}
use Rattle.tree_walk.specs.declared.path.Cursor.{Cursor}
use Rattle.tree_walk.specs.Pages.{is_leaf}
use Rattle.tree_walk.specs.Places.{child_at, most_above, rowids, IsBadStep, IsChild}
use Rattle.tree_walk.specs.Seeks.{IsAimed, IsIndexOf}
use Rattle.tree_walk.specs.Courses.{Course, ends, stops, cells_left, cells_then, Enters, Behind, Below, FromCell, IsLater, IsOn}
use Rattle.tree_walk.specs.SoughtCourses.{place_at, FromAimed, FromSought, Deeper}
use Rattle.tree_walk.specs.CoursesLaws.{on_leaf, on_inner, to_leaf}
use Rattle.tree_walk.proofs.Lists.{reverse-more}

module _ (sizes : Sizes) (base : Paged) (x : ℤ) where
  -- the walk from the child or the cell at which a cursor was set
  abbrev pub IsSet : ℕ → Place → Course → Course → Type 0
  IsSet room place later course = FromAimed sizes base x (Deeper sizes base x room) room place later course

  set_by : (room : ℕ) (place : Place) (at : ℕ) (later course : Course) → FromSought sizes base x room place later course → IsIndexOf x (rowids place.page.views) at
      → IsSet room (place_at place at) later course
  set_by zero place at later course from index = from at index
  set_by (suc room) place at later course from index = from at index

  -- a cursor is set to the cell, or the child, of its page in which the rowid belongs
  pub aimed-set : (course : Course) (old new : Cursor) → IsAimed x old new → IsOn sizes base (FromSought sizes base x) course old → IsOn sizes base IsSet course new
  aimed-set course old new aimed on =
      let here : new.here ≡ place_at old.here new.here.at =
      same_place new.here old.here aimed.page_is aimed.low_is aimed.high_is in
      record {
        room = on.room;
        deep = omega (arith, on.deep, ap length aimed.above_are);
        later = on.later;
        is_later = subst⁻¹ (λ (places : List Place). IsLater sizes base on.room (reverse places) on.later) aimed.above_are on.is_later;
        from_here = subst⁻¹ (λ (place : Place). IsSet on.room place on.later course) here
            (set_by on.room old.here new.here.at on.later course on.from_here
            (subst (λ (page : TreePage). IsIndexOf x (rowids page.views) new.here.at) aimed.page_is aimed.index));
      }
    where
      same_place : (new old : Place) → new.page ≡ old.page → new.low ≡ old.low → new.high ≡ old.high → new ≡ place_at old new.at
      same_place new old page low high =
          ap (λ (p : TreePage). let q : Place = record { page = p; low = new.low; high = new.high; at = new.at } in q) page
          ∙ ap₂ (λ (l : Option ℤ) (h : ℤ). let q : Place = record { page = old.page; low = l; high = h; at = new.at } in q) low high

  entered_by : (course : Course) (old new : Cursor) (room : ℕ) → room + length old.above.items ≡ most_above → (later : Course) → IsLater sizes base room (reverse old.above.items) later
      → (behind : Course) → Behind sizes base (Below sizes base room) (most_above - room) (cells_left old.here) old.here later behind
      → Enters sizes base (Deeper sizes base x room) (most_above - room) old.here behind course → new.above.items ≡ old.above.items ++ old.here ∷ [] → length old.above.items < most_above
      → IsInRange sizes.size base.count (child_at old.here) → IsChild base.pages sizes.usable old.here new.here → IsOn sizes base (FromSought sizes base x) course new
  entered_by course old new zero deep later is_later behind is_behind enters above_are few in_range child = absurd (omega (arith, deep, few))
  entered_by course old new (suc room) deep later is_later behind is_behind enters above_are few in_range child = record {
    room = room;
    deep = omega (arith, deep, ap length above_are, length-append old.above.items (old.here ∷ []));
    later = behind;
    is_later = subst⁻¹ (λ (places : List Place). IsLater sizes base room places behind) (ap reverse above_are ∙ reverse-more old.above.items old.here) (later, (is_later, is_behind));
    from_here = enters.entered new.here in_range (omega (arith, deep, few)) child;
  }

  set_child : (course : Course) (old : Cursor) → is_leaf old.here.page.kind ≡ false → (on : IsOn sizes base IsSet course old) → (behind : Course)
      × (Behind sizes base (Below sizes base on.room) (most_above - on.room) (cells_left old.here) old.here on.later behind × Enters sizes base (Deeper sizes base x on.room) (most_above - on.room) old.here behind course)
  set_child course old inner on =
      on_inner (is_leaf old.here.page.kind) (course ≡ cells_then old.here on.later)
      ((behind : Course) × (Behind sizes base (Below sizes base on.room) (most_above - on.room) (cells_left old.here) old.here on.later behind
      × Enters sizes base (Deeper sizes base x on.room) (most_above - on.room) old.here behind course)) inner on.from_here

  -- a step down to the child in which the rowid belongs
  pub set-entered : (course : Course) (old new : Cursor) → is_leaf old.here.page.kind ≡ false → new.above.items ≡ old.above.items ++ old.here ∷ [] → length old.above.items < most_above
      → IsInRange sizes.size base.count (child_at old.here) → IsChild base.pages sizes.usable old.here new.here → IsOn sizes base IsSet course old → IsOn sizes base (FromSought sizes base x) course new
  set-entered course old new inner above_are few in_range child on =
      let from = set_child course old inner on in
      entered_by course old new on.room on.deep on.later on.is_later from.0 from.1.0 from.1.1 above_are few in_range child

  -- a step that is refused
  pub set-refused : {F : Type 0} (course : Course) (old : Cursor) (fault : TreeFault F) → is_leaf old.here.page.kind ≡ false
      → IsDamageOrOther (IsBadStep base.pages sizes.size sizes.usable base.count old.here (length old.above.items)) fault → IsOn sizes base IsSet course old
      → IsDamageOrOther (λ page rule. course ≡ stops page rule) fault
  set-refused course old fault inner bad on =
      let from = set_child course old inner on in
      let above : length old.above.items ≡ most_above - on.room = omega (arith, on.deep) in
      damage-then (IsBadStep base.pages sizes.size sizes.usable base.count old.here (length old.above.items)) (λ page rule. course ≡ stops page rule)
      (λ page rule bad. from.1.1.refused page rule (subst (λ (n : ℕ). IsBadStep base.pages sizes.size sizes.usable base.count old.here n page rule) above bad)) fault bad

  -- in the leaf the cursor is at the first cell from there on
  pub set-found : (course : Course) (cursor : Cursor) → is_leaf cursor.here.page.kind ≡ true → IsOn sizes base IsSet course cursor → IsOn sizes base (FromCell sizes base) course cursor
  set-found course cursor leaf on =
      let place = cursor.here in
      let cells = on_leaf (is_leaf place.page.kind) (course ≡ cells_then place on.later)
      ((behind : Course) × (Behind sizes base (Below sizes base on.room) (most_above - on.room) (cells_left place) place on.later behind
      × Enters sizes base (Deeper sizes base x on.room) (most_above - on.room) place behind course)) leaf on.from_here in
      record {
        room = on.room;
        deep = on.deep;
        later = on.later;
        is_later = on.is_later;
        from_here = to_leaf (is_leaf place.page.kind) (course ≡ cells_then place on.later) (Behind sizes base (Below sizes base on.room) (most_above - on.room) (cells_left place) place on.later course) leaf cells;
      }

  -- the cursor in a root
  pub root-sought : (course : Course) (place : Place) (cursor : Cursor) → cursor.above.items ≡ [] → cursor.here ≡ place → FromSought sizes base x most_above place ends course
      → IsOn sizes base (FromSought sizes base x) course cursor
  root-sought course place cursor none here_is from = record {
    room = most_above;
    deep = omega (arith, ap length none);
    later = ends;
    is_later = subst⁻¹ (λ (places : List Place). IsLater sizes base most_above (reverse places) ends) none refl;
    from_here = subst⁻¹ (λ (p : Place). FromSought sizes base x most_above p ends course) here_is from;
  }
