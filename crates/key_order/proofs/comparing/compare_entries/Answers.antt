use Rattle.std.proofs.Common.{◌≡◌, ◌↔◌, ℕ, IsTrue, true, refl, subst}
use Rattle.std.proofs.lemmas.Option.{IfSome_then}
use Rattle.key_order.specs.Fields.{HasValues}
use Rattle.key_order.specs.Orders.{IsEntry}
use Rattle.key_order.proofs.Values.{fields-apart, fields-compared, header-entry, no-header}
use Rattle.key_order.proofs.comparing.compare_entries.Goals as goal

pub returns-in_default-clause-none : goal.returns-in_default-clause-none
returns-in_default-clause-none c = λ _ first second. no-header c.args.order.now c.args.a.now (c.in_default.ensures.none refl) first

pub returns-in_default-header_of-clause-none : goal.returns-in_default-header_of-clause-none
returns-in_default-header_of-clause-none c = λ _ first second. no-header c.args.order.now c.args.b.now (c.in_default-header_of.ensures.none refl) second

pub returns-then-not-has_values-clause-none : goal.returns-then-not-has_values-clause-none
returns-then-not-has_values-clause-none c = λ _ first second.
    let types = c.in-Some.a_types.now in
    let bodies = c.in-Some.a_bodies.now in
    let h = header-entry c.args.order.now c.args.a.now types bodies c.in-Some.ensures.found in
    let e = subst (λ (n : ℕ). IsTrue c.has_values.result ↔ HasValues types bodies n) c.length-many.ensures c.has_values.ensures in
    let yes : c.has_values.result ≡ true = e.1 (h.1 first) in
    let no : ⊥ = cc (yes, c.if-not-has_values.true) in
    no

pub returns-then-not-has_values-2-clause-none : goal.returns-then-not-has_values-2-clause-none
returns-then-not-has_values-2-clause-none c = λ _ first second.
    let types = c.in-Some-header_of.b_types.now in
    let bodies = c.in-Some-header_of.b_bodies.now in
    let h = header-entry c.args.order.now c.args.b.now types bodies c.in-Some-header_of.ensures.found in
    let e = subst (λ (n : ℕ). IsTrue c.has_values-2.result ↔ HasValues types bodies n) c.length-many.ensures c.has_values-2.ensures in
    let yes : c.has_values-2.result ≡ true = e.1 (h.1 second) in
    let no : ⊥ = cc (yes, c.if-not-has_values-2.true) in
    no

pub returns-clause-found : goal.returns-clause-found
returns-clause-found c =
    let types = c.in-Some.a_types.now in
    let bodies = c.in-Some.a_bodies.now in
    let other_types = c.in-Some-header_of.b_types.now in
    let other_bodies = c.in-Some-header_of.b_bodies.now in
    let h = header-entry c.args.order.now c.args.a.now types bodies c.in-Some.ensures.found in
    let k = header-entry c.args.order.now c.args.b.now other_types other_bodies c.in-Some-header_of.ensures.found in
    let e = subst (λ (n : ℕ). IsTrue c.has_values.result ↔ HasValues types bodies n) c.length-many.ensures c.has_values.ensures in
    let f = subst (λ (n : ℕ). IsTrue c.has_values-2.result ↔ HasValues other_types other_bodies n) c.length-many.ensures c.has_values-2.ensures in
    let first : IsEntry c.args.order.now c.args.a.now = h.0 (e.0 (let yes : c.has_values.result ≡ true = cc c.if-not-has_values.false in yes)) in
    let second : IsEntry c.args.order.now c.args.b.now = k.0 (f.0 (let yes : c.has_values-2.result ≡ true = cc c.if-not-has_values-2.false in yes)) in
    IfSome_then c.compare_fields.result c.compare_fields.ensures.found
    (λ found are. (
      first,
      second,
      fields-compared c.args.order.now c.args.a.now c.args.b.now types bodies other_types other_bodies found c.in-Some.ensures.found c.in-Some-header_of.ensures.found first second are,
    ))

pub returns-clause-none : goal.returns-clause-none
returns-clause-none c = λ none first second.
    let types = c.in-Some.a_types.now in
    let bodies = c.in-Some.a_bodies.now in
    let other_types = c.in-Some-header_of.b_types.now in
    let other_bodies = c.in-Some-header_of.b_bodies.now in
    fields-apart c.args.order.now c.args.a.now c.args.b.now types bodies other_types other_bodies c.in-Some.ensures.found c.in-Some-header_of.ensures.found (c.compare_fields.ensures.none none) first second
