use Rattle.std.proofs.Common.{◌≡◌, ℕ, ℤ, OnOk, IfErr, of_z, subst, to_z, inl, inr}
use Rattle.std.proofs.lemmas.Int.{to_z-of_z}
use Rattle.std.proofs.lemmas.Result.{IfErr-weaker, on_ok_weaker}
use Rattle.std.specs.Int.{w64}
use Rattle.page_spec.specs.Pages.{Pages}
use Rattle.page_store.specs.StoreLaws.{IfSome-told}
use Rattle.tree_pages.specs.Writers.{Becomes, sizes_of}
use Rattle.tree_pages.specs.WritersLaws.{becomes-read, sizes-same}
use Rattle.row_writes.specs.RowWrites.{Writes}
use Rattle.pass_fault.specs.Formats.{format_in}
use Rattle.imposter.specs.Writes.{DoesWrite, IsTreeOrLong}
use Rattle.pass_fault.specs.FaultsLaws.{tree-then}
use Rattle.imposter.proofs.ReadWrites.{write-read}
use Rattle.imposter.proofs.step.write_step.Goals as goal

pub returns-in-Ok-row_write-clause-wrote : goal.returns-in-Ok-row_write-clause-wrote
returns-in-Ok-row_write-clause-wrote g c =
    let S = g.S.PageRead in
    let a = c.args.store.now in
    let s = c.read_format.new.store in
    let t = c.write_row.new.store in
    let target = c.args.target.now in
    let read = c.in-Ok.ensures in
    let write = c.in-Ok-row_write.write in
    let back = to_z-of_z w64 c.args.rowid c.ranges.rowid in
    on_ok_weaker c.write_row.result (λ (went : Becomes S s t (DoesWrite (sizes_of S s) target.root c.args.rowid write)). λ old told.
    let k = becomes-read S (λ z x y. DoesWrite z target.root c.args.rowid write x y) a s t (sizes-same S a s read.owes.stays) read.pages.count read.pages.pages.same went old told in
    let format : c.in-Ok.format ≡ format_in (old 1) = IfSome-told (λ (m : Pages). c.in-Ok.format ≡ format_in (m 1)) old told read.pages.pages.answer in
    (k.0, k.1, (write, subst (λ (n : ℕ). Writes n target.table c.args.met.now c.args.prepared.now write) format c.in-Ok-row_write.ensures, k.2)))
    (subst (λ (r : ℤ). OnOk c.write_row.result (Becomes S s t (DoesWrite (sizes_of S s) target.root r write))) back c.write_row.ensures.wrote)

pub returns-in-Ok-row_write-clause-refuses : goal.returns-in-Ok-row_write-clause-refuses
returns-in-Ok-row_write-clause-refuses g c = λ m front table behind trunks told world kind is.
    let S = g.S.PageRead in
    let a = c.args.store.now in
    let s = c.read_format.new.store in
    let t = c.write_row.new.store in
    let target = c.args.target.now in
    let read = c.in-Ok.ensures in
    let write = c.in-Ok-row_write.write in
    let back = to_z-of_z w64 c.args.rowid c.ranges.rowid in
    let format : c.in-Ok.format ≡ format_in (m 1) = IfSome-told (λ (n : Pages). c.in-Ok.format ≡ format_in (n 1)) m told read.pages.pages.answer in
    IfErr-weaker c.write_row.result _ _ (λ fault refused. inr (write, subst (λ (n : ℕ). Writes n target.table c.args.met.now c.args.prepared.now write) format c.in-Ok-row_write.ensures, refused))
    (write-read S target a s t (sizes-same S a s read.owes.stays) read.pages.count read.pages.pages.same (to_z w64 (of_z w64 c.args.rowid)) c.args.rowid back c.write_row.result write c.write_row.ensures.refuses m front table behind trunks told world kind is)

pub returns-in-Ok-row_write-clause-records : goal.returns-in-Ok-row_write-clause-records
returns-in-Ok-row_write-clause-records g c =
    let back = to_z-of_z w64 c.args.rowid c.ranges.rowid in
    subst (λ (r : ℤ). IfErr c.write_row.result (IsTreeOrLong c.args.target.now r)) back c.write_row.ensures.records

pub returns-in-Err-row_write-clause-refuses : goal.returns-in-Err-row_write-clause-refuses
returns-in-Err-row_write-clause-refuses g c = λ m front table behind trunks told world kind is. inl tt

pub returns-in-Err-row_write-clause-records : goal.returns-in-Err-row_write-clause-records
returns-in-Err-row_write-clause-records g c = inl tt

pub returns-in-Err-clause-refuses : goal.returns-in-Err-clause-refuses
returns-in-Err-clause-refuses g c = λ m front table behind trunks told world kind is. inl c.in-Err.ensures.other

pub returns-in-Err-clause-records : goal.returns-in-Err-clause-records
returns-in-Err-clause-records g c = inl (tree-then c.in-Err.fault (λ f o. tt) c.in-Err.ensures.other)
