use Rattle.std.proofs.Common.{◌≡◌, ◌+◌, ℕ, length, ap, ◌∙◌, subst, arith, inl, IfErr}
use Rattle.std.proofs.Math.Path.{subst⁻¹}
use Rattle.std.proofs.lemmas.Result.{IfErr-weaker, IfOk-weaker, err_from_is_err_and, on_ok_weaker}
use Rattle.page_spec.specs.FreePages.{due_pages}
use Rattle.tree_spec.specs.Standing.{Paged, Sizes}
use Rattle.tree_pages.specs.Takes.{RisesBy}
use Rattle.tree_pages.specs.TakesLaws.{rises-none, rises-read}
use Rattle.tree_pages.specs.Writers.{paged, sizes_of}
use Rattle.tree_pages.specs.WritersLaws.{sizes-same}
use Rattle.index_leaf.specs.declared.placing.Attempt.{Attempt}
use Rattle.tree_index.specs.Needs.{IsShortUnder, overflow_pages}
use Rattle.tree_index.specs.Puts.{EntersInto, TriesInto}
use Rattle.tree_index.proofs.alone.put_entry.Goals as goal

pub returns-in-Put-clause-enters : goal.returns-in-Put-clause-enters
returns-in-Put-clause-enters g c = λ old told.
    let S = g.S.PageRead in
    let a = c.args.store.now in
    let r = c.in_ok-did.ensures.tried old told in
    (r.0, r.1, subst (λ (d : Attempt). TriesInto (sizes_of S a) c.args.order.now c.args.payload.now c.args.root d (paged S a old) (paged S c.put_alone.new.store r.0)) c.in-Put.is r.2)

pub returns-in-Present-clause-enters : goal.returns-in-Present-clause-enters
returns-in-Present-clause-enters g c = λ old told.
    let S = g.S.PageRead in
    let a = c.args.store.now in
    let r = c.in_ok-did.ensures.tried old told in
    (r.0, r.1, subst (λ (d : Attempt). TriesInto (sizes_of S a) c.args.order.now c.args.payload.now c.args.root d (paged S a old) (paged S c.put_alone.new.store r.0)) c.in-Present.is r.2)

pub returns-in-Put-clause-rises : goal.returns-in-Put-clause-rises
returns-in-Put-clause-rises g c =
    let S = g.S.PageRead in
    let none = rises-none S c.args.store.now c.put_alone.new.store c.in_ok-did.ensures.count in
    omega (arith, none)

pub returns-in-Present-clause-rises : goal.returns-in-Present-clause-rises
returns-in-Present-clause-rises g c =
    let S = g.S.PageRead in
    let none = rises-none S c.args.store.now c.put_alone.new.store c.in_ok-did.ensures.count in
    omega (arith, none)

pub returns-in_err-did-clause-refuses : goal.returns-in_err-did-clause-refuses
returns-in_err-did-clause-refuses g c = λ m told.
    let p = err_from_is_err_and c.from_residual.result c.from_residual.ensures.1 in
    rw (p.1, p.2) (λ levels tree trunks low is stands entries free within. inl c.in_err-did.ensures.other)

pub returns-in-GivenUp-clause-enters : goal.returns-in-GivenUp-clause-enters
returns-in-GivenUp-clause-enters g c =
    let S = g.S.PageRead in
    let a = c.args.store.now in
    let s = c.put_alone.new.store in
    let z = sizes_of S a in
    let order = c.args.order.now in
    let payload = c.args.payload.now in
    let did = c.in_ok-did.ensures in
    IfOk-weaker c.put_root.result _ _ (λ inserted puts. λ old told.
    let k = did.tried old told in
    let same : paged S s k.0 ≡ paged S a old = subst (λ (d : Attempt). TriesInto z order payload c.args.root d (paged S a old) (paged S s k.0)) c.in-GivenUp.is k.2 in
    let r = puts k.0 k.1 in
    let y = paged S c.put_root.new.store r.0 in (
      r.0,
      r.1,
      subst (λ (m : Sizes). EntersInto m order payload c.args.root inserted (paged S a old) y) (sizes-same S a s did.owes.stays)
          (subst (λ (x : Paged). EntersInto (sizes_of S s) order payload c.args.root inserted x y) same r.2),
    )) c.put_root.ensures.enters

pub returns-in-GivenUp-clause-rises : goal.returns-in-GivenUp-clause-rises
returns-in-GivenUp-clause-rises g c =
    let S = g.S.PageRead in
    let a = c.args.store.now in
    let s = c.put_alone.new.store in
    let v = c.put_root.new.store in
    let payload = c.args.payload.now in
    let did = c.in_ok-did.ensures in
    on_ok_weaker c.put_root.result
    (λ (rises : RisesBy S (51 + overflow_pages (S.usable s) (length payload)) s v).
    let same = subst (λ (u : ℕ). RisesBy S (51 + overflow_pages u (length payload)) s v) did.owes.stays.usable rises in
    let all = rises-read S (51 + overflow_pages (S.usable a) (length payload)) a s v did.owes.stays.size did.count same in
    omega (arith, all)) c.put_root.ensures.rises

pub returns-in-GivenUp-clause-refuses : goal.returns-in-GivenUp-clause-refuses
returns-in-GivenUp-clause-refuses g c = λ m told.
    let S = g.S.PageRead in
    let a = c.args.store.now in
    let s = c.put_alone.new.store in
    let z = sizes_of S a in
    let order = c.args.order.now in
    let payload = c.args.payload.now in
    let root = c.args.root in
    let limit = c.args.limit in
    let v = c.put_root.new.store in
    let did = c.in_ok-did.ensures in
    let k = did.tried m told in
    let same : paged S s k.0 ≡ paged S a m = subst (λ (d : Attempt). TriesInto z order payload root d (paged S a m) (paged S s k.0)) c.in-GivenUp.is k.2 in
    IfErr-weaker c.put_root.result _ _ (λ fault short.
    subst (λ (n : Sizes). IsShortUnder n order 24 (3 + overflow_pages (S.usable a) (length payload)) limit root (paged S a m) (S.count v) fault) (sizes-same S a s did.owes.stays)
    (subst (λ (u : ℕ). IsShortUnder (sizes_of S s) order 24 (3 + overflow_pages u (length payload)) limit root (paged S a m) (S.count v) fault) did.owes.stays.usable
    (subst (λ (x : Paged). IsShortUnder (sizes_of S s) order 24 (3 + overflow_pages (S.usable s) (length payload)) limit root x (S.count v) fault) same short))) (c.put_root.ensures.refuses k.0 k.1)
