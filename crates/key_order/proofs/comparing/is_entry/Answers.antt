use Rattle.std.proofs.Common.{◌↔◌, ℕ, IsTrue, refl, subst}
use Rattle.key_order.specs.Fields.{HasValues}
use Rattle.key_order.proofs.Values.{header-entry, no-header}
use Rattle.key_order.proofs.comparing.is_entry.Goals as goal

pub returns-in-Some : goal.returns-in-Some
returns-in-Some c =
    let types = c.in-Some.types.now in
    let bodies = c.in-Some.bodies.now in
    let h = header-entry c.args.order.now c.args.bytes.now types bodies c.in-Some.ensures.found in
    let e = subst (λ (n : ℕ). IsTrue c.has_values.result ↔ HasValues types bodies n) c.length.ensures c.has_values.ensures in
    (λ yes. h.0 (e.0 yes), λ entry. e.1 (h.1 entry))

pub returns-in-None : goal.returns-in-None
returns-in-None c = (λ no. let h : ⊥ = cc in absurd h, λ entry. absurd (no-header c.args.order.now c.args.bytes.now (c.in-None.ensures.none refl) entry))
