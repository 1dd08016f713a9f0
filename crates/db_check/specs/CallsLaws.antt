-- What calls over a store say one after the other, and what one owes whose error is no fault of the store: crates above cite these facts in their proofs.
use Rattle.std.proofs.Common.{◌≡◌, Option, None, Result, Ok, Err, IfErr, IfSome, refl, ap, ◌∙◌, arith}
use Rattle.std.proofs.Math.Path.{subst⁻¹}
use Rattle.std.proofs.lemmas.Option.{IfSome_then}
use Rattle.common_spec.specs.ToldLaws.{told-both}
use Rattle.page_spec.specs.Pages.{Pages}
use Rattle.page_store.specs.declared.store.PageRead.{Ghosts}
use Rattle.page_store.specs.Store.{Sees, Stays, OwesBy, IsCause}
use Rattle.page_store.specs.StoreLaws.{some-all, at-sizes}
use Rattle.tree_spec.specs.Standing.{Sizes, Paged}
use Rattle.tree_walk.specs.Stores.{sizes_of, paged}
use Rattle.db_check.specs.declared.fault.CheckFault.{CheckFault}
use Rattle.db_check.specs.Answers.{fault_in}

-- after calls that ended well
pub owes-free : {P F T : Type 0} (g : Ghosts P F) {before after : P} (result : Result T (CheckFault F)) → Stays g before after → g.faults after ≡ g.faults before → IfErr result (λ fault. fault_in fault ≡ None)
    → OwesBy g fault_in before after result
owes-free g {before} {after} (Ok done) stays same none = record { stays = stays; faults = record { later = omega (arith, ap g.fault_count same); still = same; cause = tt } }
owes-free {P} {F} {T} g {before} {after} (Err fault) stays same none = record {
  stays = stays;
  faults = record { later = omega (arith, ap g.fault_count same); still = tt; cause = subst⁻¹ (λ (o : Option F). IsCause g.Fails o (g.faults before) (g.faults after)) none same };
}

module _ {P F : Type 0} (g : Ghosts P F) where
  -- two calls, of which the second speaks of the sizes that the first left
  pub sees-both : {before mid after : P} {A C : Pages → Type 0} (B : Sizes → Paged → Type 0) → Sees g before mid A → Stays g before mid → Sees g mid after (λ m. B (sizes_of g mid) (paged g mid m))
      → ((m : Pages) → A m → B (sizes_of g before) (paged g before m) → C m) → Sees g before after C
  sees-both {before} {mid} {after} B first stays second combine = record {
    same = second.same ∙ first.same;
    count = second.count ∙ first.count;
    answer = told-both (g.pages before) first.same first.answer
        (at-sizes g stays first.count (λ s u n. IfSome (g.pages mid) (λ m. B (record { size = s; usable = u }) (record { count = n; pages = m }))) second.answer) combine;
  }

  pub sees-one : {before after : P} {A C : Pages → Type 0} → Sees g before after A → ((m : Pages) → A m → C m) → Sees g before after C
  sees-one {before} {after} first on = record { same = first.same; count = first.count; answer = IfSome_then (g.pages before) first.answer on }

  pub sees-none : (store : P) {C : Pages → Type 0} → ((m : Pages) → C m) → Sees g store store C
  sees-none store all = record { same = refl; count = refl; answer = some-all (g.pages store) all }
