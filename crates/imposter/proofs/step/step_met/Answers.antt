use Rattle.std.proofs.Common.{◌≡◌, ℤ, Option, of_z, refl, subst, to_z, inl, inr}
use Rattle.std.proofs.lemmas.Int.{to_z-of_z}
use Rattle.std.specs.Int.{w64}
use Rattle.tree_pages.specs.Writers.{Becomes, paged, sizes_of}
use Rattle.prepared_spec.specs.declared.violation.Violation.{Violation}
use Rattle.imposter.specs.Steps.{IsFaultOf, IsFaultWriting, WritesStep}
use Rattle.imposter.specs.Writes.{IsTreeOrLong}
use Rattle.imposter.proofs.step.step_met.Goals as goal

pub returns-in-Ok-Some-clause-steps : goal.returns-in-Ok-Some-clause-steps
returns-in-Ok-Some-clause-steps g c = λ old told.
    (old, told, (subst (λ (fault : Option Violation). IsFaultOf c.args.target.now c.args.taken c.args.met.now c.args.prepared.now fault) c.in-Ok-Some.field-0-is c.in-Ok-Some.ensures, refl))

pub returns-in-Ok-clause-steps : goal.returns-in-Ok-clause-steps
returns-in-Ok-clause-steps g c = λ old told.
    let S = g.S.PageRead in
    let a = c.args.store.now in
    let target = c.args.target.now in
    let back = to_z-of_z w64 c.args.rowid c.ranges.rowid in
    let wrote = subst (λ (r : ℤ). Becomes S a c.write_step.new.store (WritesStep (sizes_of S a) target r c.args.met.now c.args.prepared.now)) back c.in-Ok.ensures.wrote in
    let k = wrote old told in
    (k.0, k.1, (subst (λ (fault : Option Violation). IsFaultOf target c.args.taken c.args.met.now c.args.prepared.now fault) c.in-Ok-None.field-0-is c.in-Ok-None.ensures, c.makes_new.ensures, k.2))

pub returns-in-Err-write_step-clause-refuses : goal.returns-in-Err-write_step-clause-refuses
returns-in-Err-write_step-clause-refuses g c = λ m front table behind trunks told world kind is.
    let S = g.S.PageRead in
    let a = c.args.store.now in
    let target = c.args.target.now in
    let back = to_z-of_z w64 c.args.rowid c.ranges.rowid in
    let refuses = c.in-Err-write_step.ensures.refuses m front table behind trunks told world kind is in
    inr (
      subst (λ (fault : Option Violation). IsFaultOf target c.args.taken c.args.met.now c.args.prepared.now fault) c.in-Ok-None.field-0-is c.in-Ok-None.ensures,
      subst (λ (r : ℤ). IsFaultWriting (S.usable a) target r c.args.met.now c.args.prepared.now (paged S a m) trunks (S.count c.write_step.new.store) c.in-Err-write_step.fault) back refuses,
    )

pub returns-in-Err-write_step-clause-records : goal.returns-in-Err-write_step-clause-records
returns-in-Err-write_step-clause-records g c =
    let back = to_z-of_z w64 c.args.rowid c.ranges.rowid in
    subst (λ (r : ℤ). IsTreeOrLong c.args.target.now r c.in-Err-write_step.fault) back c.in-Err-write_step.ensures.records

pub returns-in-Err-clause-refuses : goal.returns-in-Err-clause-refuses
returns-in-Err-clause-refuses g c = λ m front table behind trunks told world kind is. inl tt

pub returns-in-Err-clause-records : goal.returns-in-Err-clause-records
returns-in-Err-clause-records g c = inl tt
