-- What a walk says of the members of a standing tree.
use Rattle.std.proofs.Common.{◌≡◌, ℕ, ℤ, List, [], ◌∷◌, drop, slice_index_or, Option, Some, None, Result, Ok, Err, sym, ap, ◌∙◌}
use Rattle.std.specs.List.{AllZip}
use Rattle.common_spec.specs.Reading.{OrFault}
use Rattle.refusal.specs.declared.Rule.{Rule}
use Rattle.tree_spec.specs.declared.TreeKind.{TreeKind}
use Rattle.tree_spec.specs.declared.TreeKind.TheVariants.{Table}
use Rattle.tree_spec.specs.declared.fault.TreeFault.{TreeFault}
use Rattle.tree_spec.specs.Faults.{IsOther, IsDamageOrOther}
use Rattle.tree_spec.specs.FaultsLaws.{damage-none}
use Rattle.tree_spec.specs.Standing.{Sizes, Paged}
use Rattle.tree_spec.specs.Trees.{Member}
use Rattle.tree_walk.specs.declared.path.Cursor.{Cursor}
use Rattle.tree_walk.specs.declared.cursor.Row.{Row}
use Rattle.tree_walk.specs.Courses.{Spot, Course, behind_first, stops, StandsOn, Reaches, MovesOver, StartsWalk, IsFirstOf, IsBadFirst, ReadsFirst}
use Rattle.tree_walk.specs.Seeks.{not_less, StandsFrom}
use Rattle.tree_walk.specs.SoughtCourses.{SeeksWalk}
use Rattle.tree_walk.specs.Walks.{IsMember, HasMembers, StandsAt, Leaves, StandsFirst, MovesOn, IsFirstRow, ReadsRow}
use Rattle.tree_walk.proofs.Lists.{zip-behind}
use Rattle.tree_walk.specs.PayloadsLaws.{no_view, payload-one, payload-not_broken}
use Rattle.tree_walk.proofs.Sought.{sought-course}
use Rattle.tree_walk.proofs.TreeCourses.{tree-course}

module _ (sizes : Sizes) (base : Paged) where
  module _ (kind : TreeKind) (members : List Member) where
    -- no call on a walk of members is refused
    undamaged : {F : Type 0} (course : Course) → HasMembers sizes base kind members course → (fault : TreeFault F) → IsDamageOrOther (λ page rule. course ≡ stops page rule) fault → IsOther fault
    undamaged course has =
        damage-none (λ page rule. course ≡ stops page rule)
        (λ page rule is. let e : Some (record { page = page; rule = rule }) ≡ None = sym (ap (λ (c : Course). c.damage) is) ∙ has.undamaged in cc)

    started : {F : Type 0} (course : Course) (result : Result Cursor (TreeFault F)) → HasMembers sizes base kind members course
        → OrFault (StandsOn sizes base course) (IsDamageOrOther (λ page rule. course ≡ stops page rule)) result → OrFault (StandsAt sizes base kind members) IsOther result
    started course (Ok cursor) has stands = record { course = course; stands = stands; members = has }
    started course (Err fault) has bad = undamaged course has fault bad

    moved : {T F : Type 0} (course : Course) (cursor : Cursor) (result : Result T (TreeFault F)) → HasMembers sizes base kind members course
        → Reaches (StandsOn sizes base) course cursor result → Leaves (StandsAt sizes base kind members) cursor result
    moved course cursor (Ok done) has stands = record { course = course; stands = stands; members = has }
    moved course cursor (Err fault) has bad = undamaged course has fault bad

  -- a cursor that stands at the first cell stands at the first member
  pub first-member : {F : Type 0} (kind : TreeKind) (root : ℕ) (result : Result Cursor (TreeFault F)) → StartsWalk sizes base kind root result → StandsFirst sizes base kind root result
  first-member kind root result starts = λ depth members numbers is.
      let found = tree-course sizes base root kind depth members numbers is in
      started kind members found.course result found.members_are (starts found.course found.walk)

  pub sought-member : {F : Type 0} (root : ℕ) (x : ℤ) (result : Result Cursor (TreeFault F)) → SeeksWalk sizes base root x result → StandsFrom sizes base root x result
  sought-member root x result seeks = λ depth members numbers is.
      let found = sought-course sizes base x root depth members numbers is in
      started Table (not_less x members) found.course result found.members_are (seeks found.course found.walk)

  -- and goes on to the next
  pub next-member : {T F : Type 0} (old new : Cursor) (result : Result T (TreeFault F)) → MovesOver sizes base old new result → MovesOn sizes base old new result
  next-member old new result moves = λ kind rest stands.
      let has = stands.members in
      moved kind (drop 1 rest) (behind_first stands.course) new result
      (record { cells = zip-behind (IsMember sizes base kind) stands.course.spots rest has.cells; undamaged = has.undamaged }) (moves stands.course stands.stands)

  module _ (kind : TreeKind) where
    bad-first : (spot : Spot) (m : Member) → IsMember sizes base kind spot m → (page : ℕ) (rule : Rule) → IsBadFirst sizes base (spot ∷ []) page rule → ⊥
    bad-first spot m is page rule bad =
        let view = slice_index_or spot.page.views spot.at no_view in
        payload-not_broken base.pages sizes.size sizes.usable base.count spot.page spot.at view m.payload (is.payload_is no_view) (bad no_view).0 page rule (bad no_view).1

    read-by : {F : Type 0} (spots : List Spot) (rest : List Member) (result : Result (Option Row) (TreeFault F)) → AllZip (IsMember sizes base kind) spots rest
        → OrFault (IsFirstOf sizes base spots) (IsDamageOrOther (IsBadFirst sizes base spots)) result → OrFault (IsFirstRow rest) IsOther result
    read-by [] [] (Ok None) all is = tt
    read-by [] [] (Ok (Some row)) all is = absurd is
    read-by [] [] (Err fault) all bad = damage-none (IsBadFirst sizes base []) (λ page rule is. is) fault bad
    read-by [] (m ∷ rest) result all is = absurd all
    read-by (spot ∷ spots) [] result all is = absurd all
    read-by (spot ∷ spots) (m ∷ rest) (Ok None) all is = absurd is
    read-by (spot ∷ spots) (m ∷ rest) (Ok (Some row)) all is =
        let view = slice_index_or spot.page.views spot.at no_view in (
          (is no_view).0 ∙ all.0.rowid_is no_view,
          payload-one base.pages sizes.size sizes.usable base.count spot.page spot.at view row.payload m.payload (is no_view).1 (all.0.payload_is no_view),
        )
    read-by (spot ∷ spots) (m ∷ rest) (Err fault) all bad = damage-none (IsBadFirst sizes base (spot ∷ spots)) (bad-first spot m all.0) fault bad

  -- and its row is that of the member
  pub row-member : {F : Type 0} (cursor : Cursor) (result : Result (Option Row) (TreeFault F)) → ReadsFirst sizes base cursor result → ReadsRow sizes base cursor result
  row-member cursor result reads = λ kind rest stands. read-by kind stands.course.spots rest result stands.members.cells (reads stands.course stands.stands)
