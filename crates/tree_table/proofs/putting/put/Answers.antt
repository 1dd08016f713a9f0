use Rattle.std.proofs.Common.{◌≡◌, ℕ, ℤ, ◌∙◌, subst, to_z, of_z, arith, length, refl, sym, inl, ◌+◌}
use Rattle.std.proofs.Math.Path.{subst⁻¹}
use Rattle.std.proofs.lemmas.Int.{to_z-of_z}
use Rattle.std.proofs.lemmas.Result.{on_ok_weaker}
use Rattle.std.specs.Int.{w64}
use Rattle.tree_spec.specs.Standing.{Sizes}
use Rattle.put_spec.specs.Steps.{GivesBack}
use Rattle.tree_pages.specs.Writers.{paged, sizes_of}
use Rattle.tree_pages.specs.WritersLaws.{sizes-same}
use Rattle.tree_table.specs.Puts.{MakesRow, PutsTable}
use Rattle.tree_table.proofs.Worlds.{on-ok_both, rowid-bounds, world-row}
use Rattle.std.proofs.lemmas.Result.{IfErr-weaker, err_from_is_err_and}
use Rattle.page_spec.specs.FreePagesLaws.{due_pages-most}
use Rattle.tree_spec.specs.Trees.{root_of}
use Rattle.tree_pages.specs.TakesLaws.{due_pages-least, rises-then, short-more}
use Rattle.tree_table.specs.Needs.{overflow_pages}
use Rattle.tree_table.proofs.Needed.{short-full, short-same}
use Rattle.tree_table.proofs.Worlds.{IsFreed, world-freed, world-short}
use Rattle.tree_table.proofs.putting.put.Goals as goal

pub returns-clause-put : goal.returns-clause-put
returns-clause-put g c =
    let S = g.S.PageRead in
    let a = c.args.store.now in
    let s = c.make_cell.new.store in
    let t = c.put_row.new.store in
    let v = c.give_back.new.store in
    let z = sizes_of S a in
    let payload = c.args.payload.now in
    let cell = c.in_ok-cell.cell in
    let first = c.in_ok-old.old.first in
    let bytes = c.in_ok-old.old.bytes in
    let mk = c.in_ok-cell.ensures in
    let pt = c.in_ok-old.ensures in
    let back = to_z-of_z w64 c.args.rowid c.ranges.rowid in
    let one : sizes_of S s ≡ z = sizes-same S a s mk.owes.stays in
    let two : sizes_of S t ≡ z = sizes-same S s t pt.owes.stays ∙ one in
    on_ok_weaker c.give_back.result (λ given. λ old told.
    let n = mk.made old told in
    let k = pt.put n.0 n.1 in
    let l = given.0 k.0 k.1 in
    let x = paged S a old in
    let y = paged S s n.0 in
    let w = paged S t k.0 in
    let u = paged S v l.0 in
    let made = subst (λ (r : ℤ). MakesRow z r payload cell x y) back n.2 in
    let into = subst (λ (r : ℤ). PutsTable z c.args.root r cell first bytes y w) back (subst (λ (m : Sizes). PutsTable m c.args.root (to_z w64 (of_z w64 c.args.rowid)) cell first bytes y w) one k.2) in
    let gives = subst (λ (m : Sizes). GivesBack m first bytes w u) two l.2 in
    let bounds = rowid-bounds c.args.rowid c.ranges.rowid in (
      l.0,
      l.1,
      λ front table behind trunks world kind is limit.
          world-row z front table behind x y w trunks c.args.rowid payload cell first bytes world kind (made trunks world.freelist) bounds.0 bounds.1
          (subst⁻¹ (λ (r : ℕ). PutsTable z r c.args.rowid cell first bytes y w) is into) u gives (omega (arith, given.1, mk.most, pt.most, world.few, limit)),
    )) (on-ok_both _ _ c.give_back.result c.give_back.ensures.given c.give_back.ensures.count)

pub returns-clause-rises : goal.returns-clause-rises
returns-clause-rises g c =
    let S = g.S.PageRead in
    let a = c.args.store.now in
    let s = c.make_cell.new.store in
    let t = c.put_row.new.store in
    let mk = c.in_ok-cell.ensures in
    let most = overflow_pages (S.usable a) (length c.args.payload.now) in
    let all = rises-then S a s t most 51 mk.owes.stays.size mk.rises c.in_ok-old.ensures.rises in
    on_ok_weaker c.give_back.result (λ same. omega (arith, same, all, due_pages-least (S.size a) (S.count t), due_pages-most (S.size a) (S.count a))) c.give_back.ensures.count

pub returns-in_err-cell-clause-refuses : goal.returns-in_err-cell-clause-refuses
returns-in_err-cell-clause-refuses g c = λ m front table behind trunks told world kind is.
    let S = g.S.PageRead in
    let a = c.args.store.now in
    let z = sizes_of S a in
    let limit = c.args.limit in
    let fault = c.in_err-cell.field-0.0 in
    let count = S.count c.make_cell.new.store in
    let most = overflow_pages (S.usable a) (length c.args.payload.now) in
    let p = err_from_is_err_and c.from_residual.result c.from_residual.ensures.1 in
    rw (p.1, p.2)
    (short-full z limit count fault (paged S a m) trunks most (short-more z limit count fault (paged S a m) trunks most (51 + most) (omega arith) (c.in_err-cell.ensures.refuses m trunks told world.freelist)))

pub returns-in_err-old-clause-refuses : goal.returns-in_err-old-clause-refuses
returns-in_err-old-clause-refuses g c = λ m front table behind trunks told world kind is.
    let S = g.S.PageRead in
    let a = c.args.store.now in
    let s = c.make_cell.new.store in
    let z = sizes_of S a in
    let limit = c.args.limit in
    let payload = c.args.payload.now in
    let cell = c.in_ok-cell.cell in
    let fault = c.in_err-old.field-0.0 in
    let count = S.count c.put_row.new.store in
    let mk = c.in_ok-cell.ensures in
    let one : sizes_of S s ≡ z = sizes-same S a s mk.owes.stays in
    let n = mk.made m told in
    let x = paged S a m in
    let y = paged S s n.0 in
    let made = subst (λ (r : ℤ). MakesRow z r payload cell x y) (to_z-of_z w64 c.args.rowid c.ranges.rowid) n.2 in
    let short = short-same (sizes_of S s) z 24 3 limit c.args.root (root_of table) (S.count s) (S.count s) count n.0 fault one (sym is) refl (c.in_err-old.ensures.refuses n.0 n.1) in
    let p = err_from_is_err_and c.from_residual-in_err-old.result c.from_residual-in_err-old.ensures.1 in
    rw (p.1, p.2)
    (short-full z limit count fault x trunks (overflow_pages (S.usable a) (length payload))
    (world-short z front table behind x y trunks c.args.rowid payload cell limit count fault world kind (made trunks world.freelist) mk.most short))

pub returns-clause-refuses : goal.returns-clause-refuses
returns-clause-refuses g c = λ m front table behind trunks told world kind is.
    let S = g.S.PageRead in
    let a = c.args.store.now in
    let s = c.make_cell.new.store in
    let t = c.put_row.new.store in
    let z = sizes_of S a in
    let payload = c.args.payload.now in
    let cell = c.in_ok-cell.cell in
    let first = c.in_ok-old.old.first in
    let bytes = c.in_ok-old.old.bytes in
    let mk = c.in_ok-cell.ensures in
    let pt = c.in_ok-old.ensures in
    let back = to_z-of_z w64 c.args.rowid c.ranges.rowid in
    let one : sizes_of S s ≡ z = sizes-same S a s mk.owes.stays in
    let two : sizes_of S t ≡ z = sizes-same S s t pt.owes.stays ∙ one in
    let n = mk.made m told in
    let k = pt.put n.0 n.1 in
    let x = paged S a m in
    let y = paged S s n.0 in
    let w = paged S t k.0 in
    let made = subst (λ (r : ℤ). MakesRow z r payload cell x y) back n.2 in
    let into = subst (λ (r : ℤ). PutsTable z c.args.root r cell first bytes y w) back (subst (λ (m : Sizes). PutsTable m c.args.root (to_z w64 (of_z w64 c.args.rowid)) cell first bytes y w) one k.2) in
    let bounds = rowid-bounds c.args.rowid c.ranges.rowid in
    let freed = world-freed z front table behind x y w trunks c.args.rowid payload cell first bytes world kind (made trunks world.freelist) bounds.0 bounds.1
    (subst⁻¹ (λ (r : ℕ). PutsTable z r c.args.rowid cell first bytes y w) is into) in
    let here : IsFreed (sizes_of S t) first bytes w = subst⁻¹ (λ (m : Sizes). IsFreed m first bytes w) two freed in
    IfErr-weaker c.give_back.result _ _ (λ fault other. inl other) (c.give_back.ensures.sound k.0 here.chain here.trunks k.1 here.is_chain here.free here.within)
