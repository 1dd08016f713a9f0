use Rattle.std.proofs.Common.{◌≡◌, ◌⊎◌, ℕ, Bool, true, false, length, Ok, Err, ◌∙◌, ap, subst, inl, inr}
use Rattle.page_spec.specs.Pages.{Pages}
use Rattle.page_store.specs.StoreLaws.{IfSome-told}
use Rattle.tree_spec.specs.Trees.{depth_of, list_in, pages_in}
use Rattle.tree_spec.specs.Standing.{Paged}
use Rattle.tree_spec.specs.Worlds.{with_tree}
use Rattle.tree_pages.specs.Writers.{paged, sizes_of}
use Rattle.tree_pages.specs.WritersLaws.{becomes-read, sizes-same}
use Rattle.pass_fault.specs.Faults.{IsFullFor, IsTreeFault, room_in}
use Rattle.pass_fault.specs.FaultsLaws.{tree-then}
use Rattle.key_order.specs.OrdersLaws.{rising-entries}
use Rattle.tree_index.specs.Needs.{put_pages}
use Rattle.index_lookup.specs.AlikesLaws.{alike-rises}
use Rattle.index_pass.specs.declared.change.EntryStep.{EntryStep}
use Rattle.index_pass.specs.Changes.{Adds, FindsClash, IsTooLong, LooksForClash, TellsClash}
use Rattle.index_pass.proofs.Reading.{index-stands, read-world}
use Rattle.index_pass.proofs.change.add_record.Goals as goal

pub returns-in-Ok-clause-steps : goal.returns-in-Ok-clause-steps
returns-in-Ok-clause-steps g c = λ old told.
    let S = g.S.PageRead in
    let F = g.row.S-Fault.Denot in
    let a = c.args.store.now in
    let target = c.args.target.now in
    let payload = c.args.payload.now in
    let seen = c.in-Ok-true.ensures in
    let looks = IfSome-told (λ (m : Pages). LooksForClash {F = F} (sizes_of S a) (paged S a m) target payload (Ok c.in-Ok-true.field-0)) old told seen.pages.answer in
    let finds : FindsClash (sizes_of S a) target payload true (paged S a old) = λ depth members numbers is rises. subst (λ (t : Bool). TellsClash target payload members t) c.in-Ok-true.field-0-test (looks depth members numbers is rises) in
    let same : paged S c.has_clash.new.store old ≡ paged S a old = ap (λ (n : ℕ). let p : Paged = record { count = n; pages = old } in p) seen.pages.count in
    (old, seen.pages.same ∙ told, (finds, c.in-Ok.ensures, same))

pub returns-in-Ok-put_record-clause-steps : goal.returns-in-Ok-put_record-clause-steps
returns-in-Ok-put_record-clause-steps g c = λ old told.
    let S = g.S.PageRead in
    let F = g.row.S-Fault.Denot in
    let a = c.args.store.now in
    let s = c.has_clash.new.store in
    let t = c.put_record.new.store in
    let target = c.args.target.now in
    let payload = c.args.payload.now in
    let seen = c.in-Ok-false.ensures in
    let looks = IfSome-told (λ (m : Pages). LooksForClash {F = F} (sizes_of S a) (paged S a m) target payload (Ok c.in-Ok-false.field-0)) old told seen.pages.answer in
    let finds : FindsClash (sizes_of S a) target payload false (paged S a old) = λ depth members numbers is rises. subst (λ (t : Bool). TellsClash target payload members t) c.in-Ok-false.field-0-test (looks depth members numbers is rises) in
    let k = becomes-read S (λ z x y. Adds z target payload x y) a s t (sizes-same S a s seen.owes.stays) seen.pages.count seen.pages.same c.in-Ok-put_record.ensures.added old told in
    (k.0, k.1, (finds, k.2))

pub returns-in-Err-put_record-clause-refuses : goal.returns-in-Err-put_record-clause-refuses
returns-in-Err-put_record-clause-refuses g c = λ m front tree behind trunks told world kind root rises.
    let S = g.S.PageRead in
    let F = g.row.S-Fault.Denot in
    let a = c.args.store.now in
    let s = c.has_clash.new.store in
    let t = c.put_record.new.store in
    let target = c.args.target.now in
    let entry = c.args.entry.now in
    let payload = c.args.payload.now in
    let fault = c.in-Err-put_record.fault in
    let seen = c.in-Ok-false.ensures in
    let looks = IfSome-told (λ (n : Pages). LooksForClash {F = F} (sizes_of S a) (paged S a n) target payload (Ok c.in-Ok-false.field-0)) m told seen.pages.answer in
    let finds : FindsClash (sizes_of S a) target payload false (paged S a m) = λ depth members numbers is low. subst (λ (b : Bool). TellsClash target payload members b) c.in-Ok-false.field-0-test (looks depth members numbers is low) in
    let said =
    read-world S a s (sizes-same S a s seen.owes.stays) seen.pages.count {T = EntryStep} (Err fault) m (with_tree front tree behind trunks)
    (λ z base f. IsTreeFault (IsFullFor (put_pages z.usable (length payload)) (room_in base trunks) (S.count t)) f ⊎ IsTooLong target entry payload f)
    (λ there. c.in-Err-put_record.ensures.refuses m front tree behind trunks (seen.pages.same ∙ told) there kind root (rising-entries target.order (list_in tree) rises)) world in
    elim said [ inl full ↦ inl full | inr long ↦ inr (finds, long) ]

pub returns-in-Err-clause-refuses : goal.returns-in-Err-clause-refuses
returns-in-Err-clause-refuses g c = λ m front tree behind trunks told world kind root rises.
    let S = g.S.PageRead in
    let F = g.row.S-Fault.Denot in
    let a = c.args.store.now in
    let z = sizes_of S a in
    let target = c.args.target.now in
    let payload = c.args.payload.now in
    let fault = c.in-Err.fault in
    let looks = IfSome-told (λ (n : Pages). LooksForClash {F = F} z (paged S a n) target payload (Err fault)) m told c.in-Err.ensures.pages.answer in
    inl (tree-then fault (λ f o. inl o)
    (looks (depth_of tree) (list_in tree) (pages_in tree) (index-stands z (paged S a m) target.root front tree behind trunks world kind root)
    (alike-rises target.order target.alike c.requires.orders.columns c.requires.orders.last (list_in tree) rises)))
