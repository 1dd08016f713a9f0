use Rattle.std.proofs.Common.{◌+◌, ℕ, length, arith}
use Rattle.std.proofs.Math.Path.{subst⁻¹}
use Rattle.std.proofs.lemmas.Result.{IfErr-weaker, on_ok_weaker}
use Rattle.page_spec.specs.FreePagesLaws.{due_pages-most}
use Rattle.tree_pages.specs.Takes.{RisesBy}
use Rattle.tree_pages.specs.TakesLaws.{due_pages-least}
use Rattle.tree_pages.specs.Writers.{Becomes, paged, sizes_of}
use Rattle.tree_index.specs.Needs.{IsShortUnder, overflow_pages}
use Rattle.tree_index.specs.Puts.{EntersInto}
use Rattle.tree_index.proofs.Needed.{ok-also, short-full}
use Rattle.tree_index.proofs.Worlds.{world-puts, world-short}
use Rattle.tree_index.proofs.putting.put.Goals as goal

pub returns-clause-put : goal.returns-clause-put
returns-clause-put g c =
    let S = g.S.PageRead in
    let a = c.args.store.now in
    let v = c.put_entry.new.store in
    let z = sizes_of S a in
    let payload = c.args.payload.now in
    let order = c.args.order.now in
    ok-also c.put_entry.result
    (λ inserted (enters : Becomes S a v (EntersInto z order payload c.args.root inserted)) most. λ old told.
    let k = enters old told in
    (k.0, k.1, world-puts z order payload c.args.root c.args.limit inserted (paged S a old) (paged S v k.0) c.requires.entry most k.2)) c.put_entry.ensures.enters c.put_entry.ensures.most

pub returns-clause-rises : goal.returns-clause-rises
returns-clause-rises g c =
    let S = g.S.PageRead in
    let a = c.args.store.now in
    let v = c.put_entry.new.store in
    on_ok_weaker c.put_entry.result (λ (rises : RisesBy S (51 + overflow_pages (S.usable a) (length c.args.payload.now)) a v). omega (arith, rises, due_pages-least (S.size a) (S.count v), due_pages-most (S.size a) (S.count a)))
    c.put_entry.ensures.rises

pub returns-clause-refuses : goal.returns-clause-refuses
returns-clause-refuses g c = λ m front index back trunks told world kind is entries.
    let S = g.S.PageRead in
    let a = c.args.store.now in
    let v = c.put_entry.new.store in
    let z = sizes_of S a in
    let order = c.args.order.now in
    let limit = c.args.limit in
    let count = S.count v in
    let x = paged S a m in
    let chain = overflow_pages (S.usable a) (length c.args.payload.now) in
    IfErr-weaker c.put_entry.result _ _
    (λ fault short.
    let here = subst⁻¹ (λ (r : ℕ). IsShortUnder z order 24 (3 + chain) limit r x count fault) is short in
    short-full z order limit count fault x trunks chain (world-short z order front index back x trunks limit chain count fault world kind entries here)) (c.put_entry.ensures.refuses m told)
