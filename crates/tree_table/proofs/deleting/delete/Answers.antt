use Rattle.std.proofs.Common.{inl}
use Rattle.std.proofs.lemmas.Result.{err_from_is_err_and}
use Rattle.tree_table.proofs.Roots.{deleted-freed, world-deletes, world-refused}
use Rattle.tree_table.proofs.Worlds.{IsFreed}
use Rattle.std.proofs.Common.{◌≡◌, ℕ, ℤ, Option, None, subst, to_z, of_z, arith}
use Rattle.std.proofs.Math.Path.{subst⁻¹}
use Rattle.std.proofs.lemmas.Int.{to_z-of_z}
use Rattle.std.specs.Int.{w64}
use Rattle.tree_spec.specs.Standing.{Sizes}
use Rattle.put_spec.specs.Steps.{GivesBack}
use Rattle.delete_spec.specs.Steps.{MissingUnder}
use Rattle.delete_spec.specs.MissingLaws.{missing-in-world}
use Rattle.tree_pages.specs.Writers.{paged, sizes_of}
use Rattle.tree_pages.specs.WritersLaws.{sizes-same}
use Rattle.tree_table.specs.declared.taking.Taken.{Taken}
use Rattle.tree_table.specs.Deletes.{DeletesFrom, DeletesTable, gone_of}
use Rattle.tree_table.proofs.DeletedWorlds.{world-deleted}
use Rattle.tree_pages.specs.TakesLaws.{due_pages-least}
use Rattle.page_spec.specs.FreePagesLaws.{due_pages-most}
use Rattle.tree_table.proofs.deleting.delete.Goals as goal

pub returns-in-None-clause-deleted : goal.returns-in-None-clause-deleted
returns-in-None-clause-deleted g c = λ old told.
    let S = g.S.PageRead in
    let a = c.args.store.now in
    let s = c.delete_row.new.store in
    let z = sizes_of S a in
    let back = to_z-of_z w64 c.args.rowid c.ranges.rowid in
    let n = c.in_ok-taken.ensures.deleted old told in
    let x = paged S a old in
    let y = paged S s n.0 in
    let none : DeletesFrom z c.args.root c.args.rowid None x y =
    subst (λ (q : ℤ). DeletesFrom z c.args.root q None x y) back (subst (λ (o : Option Taken). DeletesFrom z c.args.root (to_z w64 (of_z w64 c.args.rowid)) o x y) c.in-None.is n.2) in (
      n.0,
      n.1,
      (
        none.0,
        λ front table behind trunks world kind is m there.
            missing-in-world z c.args.rowid front table behind x trunks kind world (subst⁻¹ (λ (r : ℕ). MissingUnder z r c.args.rowid x) is none.1) m there,
      ),
    )

pub returns-in_ok-give_back-in-Some-clause-deleted : goal.returns-in_ok-give_back-in-Some-clause-deleted
returns-in_ok-give_back-in-Some-clause-deleted g c = λ old told.
    let S = g.S.PageRead in
    let a = c.args.store.now in
    let s = c.delete_row.new.store in
    let t = c.give_back.new.store in
    let z = sizes_of S a in
    let row = c.in-Some.row in
    let back = to_z-of_z w64 c.args.rowid c.ranges.rowid in
    let one : sizes_of S s ≡ z = sizes-same S a s c.in_ok-taken.ensures.owes.stays in
    let n = c.in_ok-taken.ensures.deleted old told in
    let k = c.in_ok-give_back-in-Some.ensures.given n.0 n.1 in
    let x = paged S a old in
    let y = paged S s n.0 in
    let w = paged S t k.0 in
    let from : DeletesTable z c.args.root c.args.rowid row x y =
    subst (λ (q : ℤ). DeletesTable z c.args.root q row x y) back (subst (λ (o : Option Taken). DeletesFrom z c.args.root (to_z w64 (of_z w64 c.args.rowid)) o x y) c.in-Some.is n.2) in
    let gives : GivesBack z row.old.first row.old.bytes y w = subst (λ (m : Sizes). GivesBack m row.old.first row.old.bytes y w) one k.2 in (
      k.0,
      k.1,
      λ front table behind trunks world kind is limit.
          world-deleted z (gone_of c.args.rowid row) front table behind trunks x y w c.args.root row.old.first row.old.bytes world kind is
          (world-deletes z front table behind x trunks c.args.root world kind is c.args.rowid row y from) gives
          (omega (arith, c.in_ok-give_back-in-Some.ensures.count, c.in_ok-taken.ensures.most, world.few, limit)),
    )

pub returns-in-None-clause-rises : goal.returns-in-None-clause-rises
returns-in-None-clause-rises g c =
    let size = g.S.PageRead.size c.args.store.now in
    omega (arith, c.in_ok-taken.ensures.rises, due_pages-least size (g.S.PageRead.count c.delete_row.new.store), due_pages-most size (g.S.PageRead.count c.args.store.now))

pub returns-in_ok-give_back-in-Some-clause-rises : goal.returns-in_ok-give_back-in-Some-clause-rises
returns-in_ok-give_back-in-Some-clause-rises g c =
    let size = g.S.PageRead.size c.args.store.now in
    omega (
      arith,
      c.in_ok-give_back-in-Some.ensures.count,
      c.in_ok-taken.ensures.rises,
      due_pages-least size (g.S.PageRead.count c.delete_row.new.store),
      due_pages-most size (g.S.PageRead.count c.args.store.now),
    )

pub returns-in_err-taken-clause-refuses : goal.returns-in_err-taken-clause-refuses
returns-in_err-taken-clause-refuses g c = λ m front table behind trunks told world kind is.
    let S = g.S.PageRead in
    let a = c.args.store.now in
    let z = sizes_of S a in
    let fault = c.in_err-taken.field-0.0 in
    let count = S.count c.delete_row.new.store in
    let p = err_from_is_err_and c.from_residual.result c.from_residual.ensures.1 in
    rw (p.1, p.2) (world-refused z front table behind (paged S a m) trunks c.args.root world kind is c.args.limit count fault (c.in_err-taken.ensures.refuses m told))

pub returns-in_err-give_back-in-Some-clause-refuses : goal.returns-in_err-give_back-in-Some-clause-refuses
returns-in_err-give_back-in-Some-clause-refuses g c = λ m front table behind trunks told world kind is.
    let S = g.S.PageRead in
    let a = c.args.store.now in
    let s = c.delete_row.new.store in
    let z = sizes_of S a in
    let row = c.in-Some.row in
    let back = to_z-of_z w64 c.args.rowid c.ranges.rowid in
    let one : sizes_of S s ≡ z = sizes-same S a s c.in_ok-taken.ensures.owes.stays in
    let n = c.in_ok-taken.ensures.deleted m told in
    let x = paged S a m in
    let y = paged S s n.0 in
    let first = row.old.first in
    let bytes = row.old.bytes in
    let from : DeletesTable z c.args.root c.args.rowid row x y =
    subst (λ (q : ℤ). DeletesTable z c.args.root q row x y) back (subst (λ (o : Option Taken). DeletesFrom z c.args.root (to_z w64 (of_z w64 c.args.rowid)) o x y) c.in-Some.is n.2) in
    let into = world-deletes z front table behind x trunks c.args.root world kind is c.args.rowid row y from in
    let here : IsFreed (sizes_of S s) first bytes y =
    subst⁻¹ (λ (q : Sizes). IsFreed q first bytes y) one (deleted-freed z front table behind x trunks c.args.root world kind is (gone_of c.args.rowid row) y first bytes into) in
    let p = err_from_is_err_and c.from_residual-in_err-give_back-in-Some.result c.from_residual-in_err-give_back-in-Some.ensures.1 in
    rw (p.1, p.2) (inl (c.in_err-give_back-in-Some.ensures.sound n.0 here.chain here.trunks n.1 here.is_chain here.free here.within))
