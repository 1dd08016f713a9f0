use Rattle.std.proofs.Common.{◌≡◌, ℕ, ◌-◌, subst, arith, inl, Option, Some, None}
use Rattle.std.proofs.Math.Path.{subst⁻¹}
use Rattle.std.proofs.lemmas.Result.{err_from_is_err_and}
use Rattle.tree_pages.specs.Writers.{paged, sizes_of}
use Rattle.tree_pages.specs.WritersLaws.{sizes-same}
use Rattle.tree_spec.specs.Standing.{Sizes}
use Rattle.tree_spec.specs.Worlds.{IsFree}
use Rattle.tree_spec.specs.Changes.{Within}
use Rattle.index_removal.specs.Deletes.{DeletesInto}
use Rattle.index_cells.specs.declared.cells.Taken.{Taken}
use Rattle.index_delete_spec.specs.Steps.{DeleteInto}
use Rattle.index_cells.specs.Respelling.{cell_of}
use Rattle.put_spec.specs.Steps.{GivesBack}
use Rattle.index_removal.proofs.Worlds.{world-misses, world-removed, world-freed, world-refused}
use Rattle.tree_pages.specs.TakesLaws.{due_pages-least}
use Rattle.page_spec.specs.FreePagesLaws.{due_pages-most}
use Rattle.page_spec.specs.Chains.{IsChain}
use Rattle.index_removal.proofs.deleting.delete.Goals as goal

pub returns-in-None-clause-deleted : goal.returns-in-None-clause-deleted
returns-in-None-clause-deleted g c = λ old told.
    let S = g.S.PageRead in
    let a = c.args.store.now in
    let s = c.delete_root.new.store in
    let z = sizes_of S a in
    let order = c.args.order.now in
    let payload = c.args.payload.now in
    let n = c.in_ok-taken.ensures.deleted old told in
    let x = paged S a old in
    let none : DeletesInto z order payload c.args.root None x (paged S s n.0) = subst (λ (o : Option Taken). DeletesInto z order payload c.args.root o x (paged S s n.0)) c.in-None.is n.2 in (
      n.0,
      n.1,
      (none.0, λ front index back trunks world kind is rises limit. world-misses z order payload c.requires.entry front index back x trunks world kind c.args.root is rises none.1),
    )

pub returns-in_ok-give_back-in-Some-clause-deleted : goal.returns-in_ok-give_back-in-Some-clause-deleted
returns-in_ok-give_back-in-Some-clause-deleted g c = λ old told.
    let S = g.S.PageRead in
    let a = c.args.store.now in
    let s = c.delete_root.new.store in
    let t = c.give_back.new.store in
    let z = sizes_of S a in
    let order = c.args.order.now in
    let payload = c.args.payload.now in
    let row = c.in-Some.row in
    let view = row.view in
    let one : sizes_of S s ≡ z = sizes-same S a s c.in_ok-taken.ensures.owes.stays in
    let n = c.in_ok-taken.ensures.deleted old told in
    let k = c.in_ok-give_back-in-Some.ensures.given n.0 n.1 in
    let x = paged S a old in
    let y = paged S s n.0 in
    let w = paged S t k.0 in
    let some : DeletesInto z order payload c.args.root (Some row) x y = subst (λ (o : Option Taken). DeletesInto z order payload c.args.root o x y) c.in-Some.is n.2 in
    let gives : GivesBack z view.overflow (view.payload - view.local) y w =
    subst (λ (b : ℕ). GivesBack z view.overflow b y w) c.saturating_sub-behind.ensures (subst (λ (m : Sizes). GivesBack m view.overflow c.saturating_sub-behind.result y w) one k.2) in (
      k.0,
      k.1,
      λ front index back trunks world kind is rises limit.
          world-removed z order payload c.requires.entry front index back x trunks world kind row y (subst⁻¹ (λ (r : ℕ). DeleteInto z (cell_of row) r x y) is some.0) w some.1 gives rises
          (omega (arith, c.in_ok-give_back-in-Some.ensures.count, c.in_ok-taken.ensures.most, world.few, limit)),
    )

pub returns-in-None-clause-rises : goal.returns-in-None-clause-rises
returns-in-None-clause-rises g c =
    let size = g.S.PageRead.size c.args.store.now in
    omega (arith, c.in_ok-taken.ensures.rises, due_pages-least size (g.S.PageRead.count c.delete_root.new.store), due_pages-most size (g.S.PageRead.count c.args.store.now))

pub returns-in_ok-give_back-in-Some-clause-rises : goal.returns-in_ok-give_back-in-Some-clause-rises
returns-in_ok-give_back-in-Some-clause-rises g c =
    let size = g.S.PageRead.size c.args.store.now in
    omega (
      arith,
      c.in_ok-give_back-in-Some.ensures.count,
      c.in_ok-taken.ensures.rises,
      due_pages-least size (g.S.PageRead.count c.delete_root.new.store),
      due_pages-most size (g.S.PageRead.count c.args.store.now),
    )

pub returns-in_err-taken-clause-refuses : goal.returns-in_err-taken-clause-refuses
returns-in_err-taken-clause-refuses g c = λ m front index back trunks told world kind is entries.
    let S = g.S.PageRead in
    let a = c.args.store.now in
    let z = sizes_of S a in
    let fault = c.in_err-taken.field-0.0 in
    let count = S.count c.delete_root.new.store in
    let p = err_from_is_err_and c.from_residual.result c.from_residual.ensures.1 in
    rw (p.1, p.2)
    (world-refused z c.args.order.now c.args.payload.now c.requires.entry front index back (paged S a m) trunks world kind c.args.root c.args.limit count fault is entries (c.in_err-taken.ensures.refuses m told))

pub returns-in_err-give_back-in-Some-clause-refuses : goal.returns-in_err-give_back-in-Some-clause-refuses
returns-in_err-give_back-in-Some-clause-refuses g c = λ m front index back trunks told world kind is entries.
    let S = g.S.PageRead in
    let a = c.args.store.now in
    let s = c.delete_root.new.store in
    let z = sizes_of S a in
    let order = c.args.order.now in
    let payload = c.args.payload.now in
    let row = c.in-Some.row in
    let view = row.view in
    let one : sizes_of S s ≡ z = sizes-same S a s c.in_ok-taken.ensures.owes.stays in
    let n = c.in_ok-taken.ensures.deleted m told in
    let x = paged S a m in
    let y = paged S s n.0 in
    let some : DeletesInto z order payload c.args.root (Some row) x y = subst (λ (o : Option Taken). DeletesInto z order payload c.args.root o x y) c.in-Some.is n.2 in
    let freed = world-freed z order payload c.requires.entry front index back x trunks world kind row y (subst⁻¹ (λ (r : ℕ). DeleteInto z (cell_of row) r x y) is some.0) in
    let chain = subst⁻¹ (λ (u : Sizes). IsChain n.0 u.size u.usable (S.count s) view.overflow (view.payload - view.local) freed.chain) one freed.is_chain in
    let behind = subst⁻¹ (λ (b : ℕ). IsChain n.0 (S.size s) (S.usable s) (S.count s) view.overflow b freed.chain) c.saturating_sub-behind.ensures chain in
    let p = err_from_is_err_and c.from_residual-in_err-give_back-in-Some.result c.from_residual-in_err-give_back-in-Some.ensures.1 in
    rw (p.1, p.2)
    (inl (c.in_err-give_back-in-Some.ensures.sound n.0 freed.chain freed.trunks n.1 behind (subst⁻¹ (λ (u : Sizes). IsFree u y freed.trunks) one freed.free) (subst⁻¹ (λ (u : Sizes). Within u y freed.chain freed.trunks) one freed.within)))
