use Rattle.std.proofs.Common.{ℤ, Err, IfErr, IfOk, Ok, of_z, subst, to_z}
use Rattle.std.proofs.lemmas.Int.{to_z-of_z}
use Rattle.std.proofs.lemmas.Result.{IfErr-weaker, IfOk-weaker}
use Rattle.std.specs.Int.{w64}
use Rattle.page_spec.specs.Pages.{Pages}
use Rattle.page_store.specs.StoreLaws.{IfSome-told}
use Rattle.tree_pages.specs.Writers.{Becomes, paged, sizes_of}
use Rattle.tree_pages.specs.WritersLaws.{becomes-read, sizes-same}
use Rattle.imposter.specs.declared.step.RowStep.{RowStep}
use Rattle.imposter.specs.Finds.{FindsMet}
use Rattle.imposter.specs.Steps.{StepsMet, StepsRow}
use Rattle.imposter.specs.Writes.{IsTreeOrLong}
use Rattle.imposter.proofs.Faults.{long-refused, missed-refused}
use Rattle.imposter.proofs.ReadWrites.{met-read}
use Rattle.imposter.proofs.Stepping.{missed-none, step-done, step-refused}
use Rattle.imposter.proofs.step.step_row.Goals as goal

pub returns-in-Ok-clause-steps : goal.returns-in-Ok-clause-steps
returns-in-Ok-clause-steps g c =
    let S = g.S.PageRead in
    let F = g.row.S-Fault.Denot in
    let a = c.args.store.now in
    let s = c.find_met.new.store in
    let t = c.step_met.new.store in
    let z = sizes_of S a in
    let target = c.args.target.now in
    let p = c.args.prepared.now in
    let found = c.in-Ok.ensures in
    let met = c.in-Ok.met in
    let back = to_z-of_z w64 c.args.rowid c.ranges.rowid in
    IfOk-weaker c.step_met.result (λ (step : RowStep). Becomes S s t (StepsMet (sizes_of S s) target c.args.taken c.args.rowid met p step)) (λ (step : RowStep). Becomes S a t (StepsRow z target c.args.taken c.args.rowid p step))
    (λ step went. λ old told.
    let k = becomes-read S (λ y x w. StepsMet y target c.args.taken c.args.rowid met p step x w) a s t (sizes-same S a s found.owes.stays) found.pages.count found.pages.same went old told in
    let finds = subst (λ (r : ℤ). FindsMet {F = F} z (paged S a old) target r (Ok met)) back (IfSome-told (λ (m : Pages). FindsMet {F = F} z (paged S a m) target (to_z w64 (of_z w64 c.args.rowid)) (Ok met)) old told found.pages.answer) in
    (k.0, k.1, λ front tree behind trunks rows due. step-done z target c.args.taken c.args.rowid p front tree behind trunks rows (paged S a old) due F met finds step (paged S t k.0) k.2))
    (subst (λ (r : ℤ). IfOk c.step_met.result (λ (step : RowStep). Becomes S s t (StepsMet (sizes_of S s) target c.args.taken r met p step))) back c.step_met.ensures.steps)

pub returns-in-Ok-clause-refuses : goal.returns-in-Ok-clause-refuses
returns-in-Ok-clause-refuses g c = λ m front tree behind trunks rows told due.
    let S = g.S.PageRead in
    let F = g.row.S-Fault.Denot in
    let a = c.args.store.now in
    let s = c.find_met.new.store in
    let t = c.step_met.new.store in
    let z = sizes_of S a in
    let target = c.args.target.now in
    let p = c.args.prepared.now in
    let found = c.in-Ok.ensures in
    let met = c.in-Ok.met in
    let back = to_z-of_z w64 c.args.rowid c.ranges.rowid in
    let finds = subst (λ (r : ℤ). FindsMet {F = F} z (paged S a m) target r (Ok met)) back (IfSome-told (λ (n : Pages). FindsMet {F = F} z (paged S a n) target (to_z w64 (of_z w64 c.args.rowid)) (Ok met)) m told found.pages.answer) in
    IfErr-weaker c.step_met.result _ _ (λ fault refused. step-refused z target c.args.taken c.args.rowid p front tree behind trunks rows (paged S a m) due {F = F} met finds (S.count t) fault refused)
    (met-read S target a s t (sizes-same S a s found.owes.stays) found.pages.count found.pages.same (to_z w64 (of_z w64 c.args.rowid)) c.args.rowid back c.step_met.result c.args.taken met p c.step_met.ensures.refuses m front tree behind trunks told due.world due.kind_is
    due.root_is)

pub returns-in-Ok-clause-records : goal.returns-in-Ok-clause-records
returns-in-Ok-clause-records g c = λ m depth members numbers told is.
    let back = to_z-of_z w64 c.args.rowid c.ranges.rowid in
    IfErr-weaker c.step_met.result _ _ (λ fault kind. long-refused c.args.target.now c.args.rowid members fault kind) (subst (λ (r : ℤ). IfErr c.step_met.result (IsTreeOrLong c.args.target.now r)) back c.step_met.ensures.records)

pub returns-in-Err-clause-refuses : goal.returns-in-Err-clause-refuses
returns-in-Err-clause-refuses g c = λ m front tree behind trunks rows told due.
    let S = g.S.PageRead in
    let F = g.row.S-Fault.Denot in
    let a = c.args.store.now in
    let z = sizes_of S a in
    let target = c.args.target.now in
    let found = c.in-Err.ensures in
    let fault = c.in-Err.fault in
    let back = to_z-of_z w64 c.args.rowid c.ranges.rowid in
    let finds =
    subst (λ (r : ℤ). FindsMet {F = F} z (paged S a m) target r (Err fault)) back (IfSome-told (λ (n : Pages). FindsMet {F = F} z (paged S a n) target (to_z w64 (of_z w64 c.args.rowid)) (Err fault)) m told found.pages.answer) in
    missed-none z target c.args.taken c.args.rowid c.args.prepared.now front tree behind trunks rows (paged S a m) due {F = F} fault finds (S.count c.find_met.new.store)

pub returns-in-Err-clause-records : goal.returns-in-Err-clause-records
returns-in-Err-clause-records g c = λ m depth members numbers told is.
    let S = g.S.PageRead in
    let F = g.row.S-Fault.Denot in
    let a = c.args.store.now in
    let z = sizes_of S a in
    let target = c.args.target.now in
    let found = c.in-Err.ensures in
    let fault = c.in-Err.fault in
    let back = to_z-of_z w64 c.args.rowid c.ranges.rowid in
    let finds =
    subst (λ (r : ℤ). FindsMet {F = F} z (paged S a m) target r (Err fault)) back (IfSome-told (λ (n : Pages). FindsMet {F = F} z (paged S a n) target (to_z w64 (of_z w64 c.args.rowid)) (Err fault)) m told found.pages.answer) in
    missed-refused target c.args.rowid members fault (finds depth members numbers is)
