use Rattle.std.proofs.Common.{◌≡◌, ◌↔◌, ℕ, List, [], length, ◌-◌, refl, sym, ap, subst, true, false, arith}
use Rattle.std.proofs.lemmas.Bool.{eq-eqb, eqb-false, eqb-true}
use Rattle.std.proofs.lemmas.List.{nil_from_length}
use Rattle.key_order.specs.Fields.{HasValues}
use Rattle.key_order.proofs.Values.{IsCounting, counting-ends, counting-fails, counting-goes, counting-starts, some-list}
use Rattle.key_order.proofs.fields.has_values.Goals as goal

pub returns-in_default : goal.returns-in_default
returns-in_default c = (
  λ no. let h : ⊥ = cc in absurd h,
  λ has.
      absurd (counting-fails c.args.types.now c.args.bodies.now c.args.many c.loop-types_left.types_left.now c.loop-types_left.bodies_left.now c.loop-types_left.left
      (some-list c.loop-types_left.types_left.now (sym c.loop-types_left-test.ensures)) c.loop-types_left.invariant (c.in_default.ensures.none refl) has),
)

pub loop-types_left-init : goal.loop-types_left-init
loop-types_left-init c = counting-starts c.args.types.now c.args.bodies.now c.args.many

pub loop-types_left-preserved : goal.loop-types_left-preserved
loop-types_left-preserved c =
    let next = c.in-Some.next in
    let l = c.loop-types_left in
    subst (λ (n : ℕ). IsCounting c.args.types.now c.args.bodies.now c.args.many next.types.now next.bodies.now n) (sym c.saturating_sub-left.ensures)
    (counting-goes c.args.types.now c.args.bodies.now c.args.many l.types_left.now l.bodies_left.now l.left _ next.types.now next.bodies.now
    (some-list l.types_left.now (sym c.loop-types_left-test.ensures)) l.invariant c.in-Some.ensures.found)

pub returns-then-is_empty : goal.returns-then-is_empty
returns-then-is_empty c =
    let l = c.loop-types_left in
    let types : l.types_left.now ≡ [] = nil_from_length l.types_left.now (eqb-true _ 0 (sym c.loop-types_left-test.ensures)) in
    let bodies : l.bodies_left.now ≡ [] = nil_from_length l.bodies_left.now (eqb-true _ 0 (sym c.if-is_empty.ensures)) in
    let ends = counting-ends c.args.types.now c.args.bodies.now c.args.many l.bodies_left.now l.left
    (subst (λ (t : List ℕ). IsCounting c.args.types.now c.args.bodies.now c.args.many t l.bodies_left.now l.left) types l.invariant) in (
      λ none. ends.0 (bodies, eqb-true l.left 0 none),
      λ has. eq-eqb l.left 0 (ends.1 has).1,
    )

pub returns-else-is_empty : goal.returns-else-is_empty
returns-else-is_empty c =
    let l = c.loop-types_left in
    let types : l.types_left.now ≡ [] = nil_from_length l.types_left.now (eqb-true _ 0 (sym c.loop-types_left-test.ensures)) in
    let ends = counting-ends c.args.types.now c.args.bodies.now c.args.many l.bodies_left.now l.left
    (subst (λ (t : List ℕ). IsCounting c.args.types.now c.args.bodies.now c.args.many t l.bodies_left.now l.left) types l.invariant) in (
      λ some. let no : ⊥ = cc (some, c.if-is_empty.false) in absurd no,
      λ has.
          let none = (ends.1 has).0 in
          let some = some-list l.bodies_left.now (sym c.if-is_empty.ensures) in
          absurd (let no : ⊥ = omega (arith, some, ap length none) in no),
    )
