use Rattle.std.proofs.Common.{◌≡◌, List, ap, subst, ◌∙◌, sym, arith, rules, SFits, w64}
use Rattle.std.proofs.lemmas.Int.{to_z-of_z}
use Rattle.std.specs.List.Sorted.{IsPermutation}
use Rattle.small_spec.specs.declared.TargetRow.{TargetRow}
use Rattle.small_spec.specs.Inserts.{all_rows, page_room, IsFirstPresent}
use Rattle.small_spec.specs.Inserts.{NonePresent}
use Rattle.small_update.proofs.Decisions.{keys-distinct, keys-shared, page_room-same, bound-not_met, rows-merged, IsFirstPresent-permutation, NonePresent-permutation, page_room-permutation}
use Rattle.small_update.proofs.decide.Goals as goal

pub returns-then-not-has_distinct_keys : goal.returns-then-not-has_distinct_keys
returns-then-not-has_distinct_keys c = keys-shared c.args.prepared.items c.sort_by_key.new.rows.items c.deref.result.now c.has_distinct_keys.result c.sort_by_key.ensures.same c.has_distinct_keys.ensures c.deref.ensures.value c.if-not-has_distinct_keys.true

pub returns-then-not-fits_page : goal.returns-then-not-fits_page
returns-then-not-fits_page c =
    let none = keys-distinct c.args.prepared.items c.sort_by_key.new.rows.items c.deref.result.now c.has_distinct_keys.result c.sort_by_key.ensures.same c.has_distinct_keys.ensures c.deref.ensures.value c.if-not-has_distinct_keys.false in
    let same = page_room-same c.args.old.items c.args.prepared.items c.sort_by_key.new.rows.items c.sort_by_key.ensures.same in
    let over = bound-not_met c.fits_page.result (page_room c.deref-4.result.now) 4096 c.fits_page.ensures c.if-not-fits_page.true in
    let rows = ap (λ (x : List TargetRow). page_room x) (c.deref-4.ensures.value ∙ c.in_ok-rows.ensures) in
    (none.1, omega (arith, same, over, rows))

pub returns-in-Some : goal.returns-in-Some
returns-in-Some c =
    let old = c.args.old.items in
    let sorted = c.sort_by_key.new.rows.items in
    let none = keys-distinct c.args.prepared.items sorted c.deref.result.now c.has_distinct_keys.result c.sort_by_key.ensures.same c.has_distinct_keys.ensures c.deref.ensures.value c.if-not-has_distinct_keys.false in
    let same = page_room-same old c.args.prepared.items sorted c.sort_by_key.ensures.same in
    let room = c.fits_page.ensures.0 c.if-not-fits_page.false in
    let rows = ap (λ (x : List TargetRow). page_room x) (c.deref-4.ensures.value ∙ c.in_ok-rows.ensures) in
    let found = c.in-Some.ensures.present in
    let first : IsFirstPresent old sorted found.0 = rw (← c.deref-2.ensures.value, ← c.deref-3.ensures.value) found.1 in
    let fits : SFits w64 c.in-Some.data_rowid = search rules in
    (none.1, omega (arith, same, room, rows), (found.0, IsFirstPresent-permutation old c.args.prepared.items sorted found.0 c.sort_by_key.ensures.same first, c.in_ok-table.ensures, found.2 ∙ sym (to_z-of_z w64 c.in-Some.data_rowid fits)))

pub returns : goal.returns
returns c =
    let old = c.args.old.items in
    let prepared = c.args.prepared.items in
    let sorted = c.sort_by_key.new.rows.items in
    let all = c.in_ok-rows.rows.items in
    let merged_rows = c.sort_by_rowid.new.rows.items in
    let moves = c.sort_by_key.ensures.same in
    let none = keys-distinct prepared sorted c.deref.result.now c.has_distinct_keys.result moves c.has_distinct_keys.ensures c.deref.ensures.value c.if-not-has_distinct_keys.false in
    let same = page_room-same old prepared sorted moves in
    let room = c.fits_page.ensures.0 c.if-not-fits_page.false in
    let rows = ap (λ (x : List TargetRow). page_room x) (c.deref-4.ensures.value ∙ c.in_ok-rows.ensures) in
    let absent : NonePresent old sorted = rw (← c.deref-2.ensures.value, ← c.deref-3.ensures.value) c.in_default.ensures.none in
    let whole : all ≡ all_rows old sorted = c.in_ok-rows.ensures in
    let moved : IsPermutation (all_rows old sorted) merged_rows = subst (λ (x : List TargetRow). IsPermutation x merged_rows) whole c.sort_by_rowid.ensures.same in
    let last = page_room-permutation all merged_rows c.sort_by_rowid.ensures.same in
    let at = ap (λ (x : List TargetRow). page_room x) c.deref-4.ensures.value in (
      none.1,
      omega (arith, same, room, rows),
      NonePresent-permutation old prepared sorted moves absent,
      rows-merged old merged_rows prepared sorted c.requires.rising moves none.0 absent moved c.in_ok-sort_by_rowid.ensures.sorted,
      omega (arith, last, at, room),
    )
