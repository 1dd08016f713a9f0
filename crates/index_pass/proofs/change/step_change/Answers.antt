use Rattle.std.proofs.Common.{◌≡◌, ℕ, List, Err, ◌∙◌, ap, subst, inl}
use Rattle.std.proofs.Math.Path.{subst⁻¹}
use Rattle.rbu_value.specs.declared.value.Value.{Value}
use Rattle.format_spec.specs.Record.{canonical_record}
use Rattle.page_spec.specs.Pages.{Pages}
use Rattle.page_store.specs.StoreLaws.{IfSome-told}
use Rattle.tree_pages.specs.Writers.{paged, sizes_of}
use Rattle.tree_pages.specs.WritersLaws.{becomes-read, sizes-same}
use Rattle.pass_fault.specs.Formats.{format_in}
use Rattle.pass_fault.specs.FaultsLaws.{tree-then}
use Rattle.key_order.specs.Orders.{IsEntry}
use Rattle.index_pass.specs.declared.change.EntryStep.{EntryStep}
use Rattle.index_pass.specs.Changes.{IsEntryFault, StepsRecord}
use Rattle.index_pass.proofs.Reading.{record-read}
use Rattle.index_pass.proofs.change.step_change.Goals as goal

pub returns-in-Ok-step_record-clause-steps : goal.returns-in-Ok-step_record-clause-steps
returns-in-Ok-step_record-clause-steps g c = λ old told.
    let S = g.S.PageRead in
    let a = c.args.store.now in
    let s = c.record_of.new.store in
    let t = c.step_record.new.store in
    let target = c.args.target.now in
    let change = c.args.change.now in
    let step = c.in-Ok-step_record.step in
    let read = c.in-Ok.ensures in
    let written = c.in-Ok.payload.items in
    let is : written ≡ canonical_record (format_in (old 1)) c.entry_of.result.now =
    IfSome-told (λ (m : Pages). written ≡ canonical_record (format_in (m 1)) c.entry_of.result.now) old told read.pages.pages.answer in
    let k = becomes-read S (λ z x y. StepsRecord z target change c.as_slice.result.now step x y) a s t (sizes-same S a s read.owes.stays) read.pages.count read.pages.pages.same c.in-Ok-step_record.ensures.steps old told in
    (k.0, k.1, subst (λ (p : List ℕ). StepsRecord (sizes_of S a) target change p step (paged S a old) (paged S t k.0)) (c.as_slice.ensures.value ∙ is ∙ ap (canonical_record (format_in (old 1))) c.entry_of.ensures) k.2)

pub returns-in-Ok-clause-refuses : goal.returns-in-Ok-clause-refuses
returns-in-Ok-clause-refuses g c = λ m front tree behind trunks told world kind root rises entry.
    let S = g.S.PageRead in
    let a = c.args.store.now in
    let s = c.record_of.new.store in
    let t = c.step_record.new.store in
    let target = c.args.target.now in
    let change = c.args.change.now in
    let fault = c.in-Err-step_record.fault in
    let read = c.in-Ok.ensures in
    let written = c.in-Ok.payload.items in
    let is : written ≡ canonical_record (format_in (m 1)) c.entry_of.result.now =
    IfSome-told (λ (n : Pages). written ≡ canonical_record (format_in (n 1)) c.entry_of.result.now) m told read.pages.pages.answer in
    subst (λ (p : List ℕ). IsEntryFault (sizes_of S a) target (paged S a m) trunks change p (S.count t) fault) (c.as_slice.ensures.value ∙ is ∙ ap (canonical_record (format_in (m 1))) c.entry_of.ensures)
    (record-read S a s (sizes-same S a s read.owes.stays) read.pages.count {T = EntryStep} t read.pages.pages.same (Err fault) target change c.as_slice.result.now c.in-Err-step_record.ensures.refuses m front tree behind trunks told world kind root rises)

pub returns-clause-refuses : goal.returns-clause-refuses
returns-clause-refuses g c = λ m front tree behind trunks told world kind root rises entry.
    let there = subst⁻¹ (λ (e : List Value). IsEntry c.args.target.now.order (canonical_record (format_in (m 1)) e)) c.entry_of.ensures entry in
    inl (tree-then c.in-Err.fault (λ f o. inl o) (c.in-Err.ensures.refuses m told there))
