use Rattle.std.proofs.Common.{◌≡◌, ◌++◌, ◌∷◌, [], ℕ, List, length, map, sym, ap, ◌∙◌, subst, arith, true≢false, length-append}
use Rattle.std.proofs.lemmas.List.{length-map}
use Rattle.std.proofs.lemmas.Option.{none-some}
use Rattle.std.proofs.lemmas.List.Elements.{All-push}
use Rattle.std.specs.List.{All}
use Rattle.std.specs.Slots.{slots_items, slots_len, slots_filled, slots_counts}
use Rattle.std.specs.Vec.{vec_capacity}
use Rattle.frame_pool.specs.declared.frame.Frame.{Frame}
use Rattle.frame_pool.specs.Claims.{lacking}
use Rattle.frame_pool.specs.Rule.{unlent}
use Rattle.frame_pool.proofs.Closing.{length-lacking, seat-only, some-frame, slot-taken_free, stands-word, numbers-more, emptied-above, emptied-below, unlent-lent}
use Rattle.frame_pool.proofs.pool.Pool.close.Goals as goal
use Rattle.frame_pool.proofs.pool.Pool.close.Goals.{then-word-number-eq0+in-Some+in-Ok, else-word-number-eq0+in-Some-1, else-word-number-eq0+in-None-1}

pub unreachable-requires : goal.unreachable-requires
unreachable-requires c =
    let i = c.loop-number.invariant in
    let v = c.take-home.ensures in
    let test = c.loop-number-test.true in
    let end = c.slot_count-number-end.ensures in
    let wide = (slots_counts c.close_with-closed.result.slots).0 in
    let t = slot-taken_free c.args.self.table.shared.key c.args.seat.seat.id c.args.seat.seat.me.0 _ _ c.close_with-closed.ensures.values.2 (slots_items c.take-home.new.self.words) (slots_items c.loop-number.closed.slots)
    (ap slots_items (v.others.3 ∙ i.4)) i.2 c.loop-number.number c.word.result c.take-home.result (omega (arith, test, end, wide)) v.value c.word.ensures c.if-word-number-eq0.true in
    none-some t.0 (sym c.in_default.is ∙ t.1)

pub unreachable-requires-in_default-push : goal.unreachable-requires-in_default-push
unreachable-requires-in_default-push c =
    let i = c.loop-number.invariant in
    let test = c.loop-number-test.true in
    let end = c.slot_count-number-end.ensures in
    let ok = c.loop-number.frames.ok in
    true≢false (sym (c.in_default-push.ensures.succeeds (omega (arith, i.6, i.8, test, end, ok))))

pub loop-number-preserved : goal.loop-number-preserved
loop-number-preserved c =
    let i = c.loop-number.invariant in
    let v = c.take-home.ensures in
    let test = c.loop-number-test.true in
    let end = c.slot_count-number-end.ensures in
    let wide = (slots_counts c.close_with-closed.result.slots).0 in
    let there = (slots_counts c.loop-number.closed.slots).1 in
    let n : ℕ = c.loop-number.number in
    let above = emptied-above (slots_filled c.loop-number.closed.slots) _ n (slots_len c.loop-number.closed.slots) (slots_len c.take-home.new.self.slots) v.others.1 v.others.2 i.0 in
    let below = emptied-below (slots_filled c.loop-number.closed.slots) _ n (omega (arith, test, end, there, i.3)) v.others.1 i.1 in
    let ws : List ℕ = slots_items c.take-home.new.self.words in
    let numbers : map (λ (f : Frame). f.number) c.loop-number.frames.items ≡ unlent ws n = i.5 ∙ ap (λ w. unlent (slots_items w) n) (sym v.others.3) in
    elim c.if-word-number-eq0.branch [
      | then-word-number-eq0+in-Some+in-Ok w ↦ (
          let off = w.if-word-number-eq0.true in
          let t = slot-taken_free c.args.self.table.shared.key c.args.seat.seat.id c.args.seat.seat.me.0 _ _ c.close_with-closed.ensures.values.2 ws (slots_items c.loop-number.closed.slots)
          (ap slots_items (v.others.3 ∙ i.4)) i.2 n c.word.result c.take-home.result (omega (arith, test, end, wide)) v.value c.word.ensures off in
          let same : t.0 ≡ w.in-Some.frame = some-frame t.0 w.in-Some.frame (sym t.1 ∙ w.in-Some.is) in
          let items : c.if-word-number-eq0.frames.items ≡ c.loop-number.frames.items ++ w.in-Some.frame ∷ [] = ap (λ x. x.items) w.frames-is ∙ w.in-Ok.ensures.items in (
            above,
            below,
            v.others.0 ∙ i.2,
            v.others.2 ∙ i.3,
            v.others.3 ∙ i.4,
            ap (map (λ (f : Frame). f.number)) items ∙ numbers-more ws n c.loop-number.frames.items w.in-Some.frame numbers (sym (ap (λ (f : Frame). f.number) same) ∙ t.2) (sym (stands-word ws n c.word.result c.word.ensures) ∙ off),
            omega (arith, i.6, ap length items, length-append c.loop-number.frames.items (w.in-Some.frame ∷ [])),
            subst (All (λ (f : Frame). length f.bytes.items ≡ c.args.self.table.shared.key)) (sym items)
                (All-push (λ (f : Frame). length f.bytes.items ≡ c.args.self.table.shared.key) c.loop-number.frames.items w.in-Some.frame i.7 (sym (ap (λ (f : Frame). length f.bytes.items) same) ∙ t.3)),
            omega (arith, i.8, ap vec_capacity w.frames-is, w.in-Ok.ensures.capacity),
          ))
      | else-word-number-eq0+in-Some-1 w ↦ (
        above,
        below,
        v.others.0 ∙ i.2,
        v.others.2 ∙ i.3,
        v.others.3 ∙ i.4,
        ap (λ x. map (λ (f : Frame). f.number) x.items) w.frames-is ∙ numbers ∙ sym (unlent-lent ws n (λ e. w.if-word-number-eq0.false (stands-word ws n c.word.result c.word.ensures ∙ e))),
        omega (arith, i.6, ap (λ x. length x.items) w.frames-is),
        subst (λ x. All (λ (f : Frame). length f.bytes.items ≡ c.args.self.table.shared.key) x.items) (sym w.frames-is) i.7,
        omega (arith, i.8, ap vec_capacity w.frames-is),
      )
      | else-word-number-eq0+in-None-1 w ↦ (
        above,
        below,
        v.others.0 ∙ i.2,
        v.others.2 ∙ i.3,
        v.others.3 ∙ i.4,
        ap (λ x. map (λ (f : Frame). f.number) x.items) w.frames-is ∙ numbers ∙ sym (unlent-lent ws n (λ e. w.if-word-number-eq0.false (stands-word ws n c.word.result c.word.ensures ∙ e))),
        omega (arith, i.6, ap (λ x. length x.items) w.frames-is),
        subst (λ x. All (λ (f : Frame). length f.bytes.items ≡ c.args.self.table.shared.key) x.items) (sym w.frames-is) i.7,
        omega (arith, i.8, ap vec_capacity w.frames-is),
      )
    ]

pub returns-clause-frames : goal.returns-clause-frames
returns-clause-frames c =
    let i = c.loop-number.invariant in
    let t = c.close_with-closed.ensures.values.2 in
    let counts = c.close_with-closed.ensures.counts.1 in
    let test = c.loop-number-test.false in
    let end = c.slot_count-number-end.ensures in
    let upto = c.loop-number.auto.number-end in
    let wide = (slots_counts c.close_with-closed.result.slots).0 in
    let slots : ℕ = c.args.self.table.shared.table_id.slots in
    let at_end : c.loop-number.number ≡ slots = omega (arith, test, end, upto, counts) in
    let words : slots_items c.loop-number.closed.words ≡ t.0.words = ap slots_items i.4 ∙ sym t.2 in
    record {
      last = t.0;
      kept = t.1.0;
      seen = t.1.1;
      wide = omega (arith, t.3, wide, counts);
      are = i.5 ∙ ap (λ (l : List ℕ). unlent l c.loop-number.number) words ∙ ap (unlent t.0.words) at_end;
      sized = i.7;
    }

pub returns-clause-only : goal.returns-clause-only
returns-clause-only c all =
    let r = returns-clause-frames c in
    r.are ∙ seat-only c.args.self.table.shared.key r.last r.kept c.args.seat.seat.id c.args.seat.seat.me.0 r.seen all c.args.self.table.shared.table_id.slots (omega (arith, r.wide))

pub returns-clause-all : goal.returns-clause-all
returns-clause-all c only empty =
    let slots : ℕ = c.args.self.table.shared.table_id.slots in
    let fs = c.loop-number.frames.items in
    let are = returns-clause-only c only ∙ ap (λ (l : List ℕ). lacking l slots) empty in
    let ok = c.loop-number.frames.ok in
    let named = length-map fs (λ (f : Frame). f.number) in
    let count = ap length are ∙ length-lacking slots in
    omega (arith, ok, named, count)
