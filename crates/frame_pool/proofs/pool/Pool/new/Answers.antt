use Rattle.std.proofs.Common.{◌≡◌, ◌+◌, ◌*◌, ◌≤◌, ◌∷◌, [], ℕ, length, Some, List, ◌/◌, arith, sym, ap, ◌∙◌, subst, suc, length-append}
use Rattle.std.proofs.lemmas.Nat.{div-add-mod', mod_below}
use Rattle.atomic_table.specs.Table.{opening}
use Rattle.frame_pool.specs.declared.frame.Frame.{Frame}
use Rattle.std.specs.List.{All}
use Rattle.frame_pool.specs.Rule.{Filled, Kept, Slot}
use Rattle.frame_pool.specs.Views.{starts}
use Rattle.frame_pool.proofs.Steps.{rule-begins, Filled-more}
use Rattle.frame_pool.proofs.pool.Pool.new.Goals as goal

pub new-requires : goal.new-requires
new-requires c =
    let rest = c.in-None.ensures.steps in
    let i = c.loop-frame.invariant in
    let words = c.as_slice.ensures.value ∙ c.in_ok-words.ensures.items_if_clones_equal (λ y e. e) in
    let count : ℕ = c.len.result / 64 + 1 in
    let n = c.len.ensures in
    let few : length c.loop-frame.slots.items ≤ count * 64 = omega (arith, i.1, n, div-add-mod' c.len.result 64, mod_below c.len.result 64 (omega arith)) in
    subst (λ (ws : List ℕ). Kept c.len-size.result (opening ws c.loop-frame.slots.items (starts c.len-size.result))) (sym words) (rule-begins c.len-size.result count c.loop-frame.slots.items few i.0)

pub loop-frame-preserved : goal.loop-frame-preserved
loop-frame-preserved c =
    let steps = c.in-Some.ensures.steps.0 in
    let i = c.loop-frame.invariant in
    let all = subst (λ (l : List Frame). All (λ f. length f.bytes.items ≡ c.len-size.result) l) steps i.2 in
    let pushed = c.in_ok-push.ensures.items in
    let new : Frame = record { number = c.len-in-loop-frame.result; bytes = c.in-Some.frame.bytes } in (
      subst (Filled c.len-size.result) (sym {A = List Slot} pushed) (Filled-more c.len-size.result c.loop-frame.slots.items new i.0 (omega (arith, c.len-in-loop-frame.ensures, c.loop-frame.slots.ok)) (all 0 c.in-Some.frame (omega arith))),
      omega (arith, i.1, ap length pushed, length-append c.loop-frame.slots.items (Some new ∷ []), ap length steps),
      (λ k d lt. all (suc k) d (omega (arith, lt))),
    )
