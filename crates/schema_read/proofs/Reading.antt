-- What follows of a store from the calls that read its catalog.
use Rattle.std.proofs.Common.{◌≡◌, Option, None, Result, Ok, Err, IfErr, ap, arith}
use Rattle.std.proofs.Math.Path.{subst⁻¹}
use Rattle.page_store.specs.declared.store.PageRead.{Ghosts}
use Rattle.page_store.specs.Store.{IsCause, OwesBy, Stays}
use Rattle.schema_read.specs.Answers.{fault_in}
use Rattle.schema_read.specs.declared.read.CatalogFault.{CatalogFault}

-- what a call owes whose error is told in other words
pub owes-told : {P F E T R : Type 0} (g : Ghosts P F) {before after : P} (cause_in : E → Option F) (error : E) (told : CatalogFault F) → fault_in told ≡ cause_in error
    → (let one : Result T E = Err error in OwesBy g cause_in before after one) → (let other : Result R (CatalogFault F) = Err told in OwesBy g fault_in before after other)
owes-told {P} {F} {E} {T} {R} g {before} {after} cause_in error told same owes = record {
  stays = owes.stays;
  faults = record { later = owes.faults.later; still = tt; cause = subst⁻¹ (λ (o : Option F). IsCause g.Fails o (g.faults before) (g.faults after)) same owes.faults.cause };
}

-- what a call owes that leaves the store
pub owes-free : {P F T : Type 0} (g : Ghosts P F) {before after : P} (result : Result T (CatalogFault F)) → Stays g before after → g.faults after ≡ g.faults before → IfErr result (λ fault. fault_in fault ≡ None)
    → OwesBy g fault_in before after result
owes-free g {before} {after} (Ok done) stays same none = record { stays = stays; faults = record { later = omega (arith, ap g.fault_count same); still = same; cause = tt } }
owes-free {P} {F} {T} g {before} {after} (Err fault) stays same none = record {
  stays = stays;
  faults = record { later = omega (arith, ap g.fault_count same); still = tt; cause = subst⁻¹ (λ (o : Option F). IsCause g.Fails o (g.faults before) (g.faults after)) none same };
}
