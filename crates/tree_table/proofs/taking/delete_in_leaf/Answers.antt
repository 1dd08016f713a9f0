use Rattle.std.proofs.lemmas.Result.{err_from_is_err_and}
use Rattle.tree_table.proofs.Used.{whenever-none, uses-read}
use Rattle.std.proofs.Common.{◌≡◌, ℕ, ℤ, [], Option, Some, ◌∙◌, subst, to_z, of_z}
use Rattle.std.proofs.lemmas.Int.{to_z-of_z}
use Rattle.std.specs.Int.{w64}
use Rattle.tree_spec.specs.Standing.{Sizes}
use Rattle.tree_pages.specs.Writers.{paged, sizes_of}
use Rattle.tree_pages.specs.WritersLaws.{sizes-same}
use Rattle.tree_table.specs.declared.taking.Found.{Found}
use Rattle.tree_table.specs.Deletes.{IsFound, Opens, Shrinks}
use Rattle.tree_table.proofs.taking.delete_in_leaf.Goals as goal

pub returns-in_ok-left-in-Some-clause-deleted : goal.returns-in_ok-left-in-Some-clause-deleted
returns-in_ok-left-in-Some-clause-deleted g c = λ old told.
    let S = g.S.PageRead in
    let a = c.args.store.now in
    let s = c.find_row.new.store in
    let t = c.shrink_leaf.new.store in
    let z = sizes_of S a in
    let page = c.args.page in
    let found = c.in-Some.found in
    let left = c.in_ok-left-in-Some.left in
    let f = c.in_ok-sought.ensures in
    let back = to_z-of_z w64 c.args.rowid c.ranges.rowid in
    let one : sizes_of S s ≡ z = sizes-same S a s f.owes.stays in
    let n = c.in_ok-left-in-Some.ensures.left old (f.same ∙ told) in
    let x = paged S a old in
    let w = paged S t n.0 in
    let got : IsFound z (to_z w64 (of_z w64 c.args.rowid)) page x (Some found) = subst (λ (o : Option Found). IsFound z (to_z w64 (of_z w64 c.args.rowid)) page x o) c.in-Some.is (f.found old told) in
    let shrinks : Shrinks z page found.change left x w =
    subst (λ (n : ℕ). Shrinks z page found.change left (record { count = n; pages = old }) w) f.count (subst (λ (m : Sizes). Shrinks m page found.change left (paged S s old) w) one n.2) in (
      n.0,
      n.1,
      λ there. shrinks c.args.rowid found.row there (subst (λ (r : ℤ). Opens z r found.row page found.change [] x x) back (got there)),
    )

pub returns-in-None-clause-uses : goal.returns-in-None-clause-uses
returns-in-None-clause-uses g c =
    let S = g.S.PageRead in
    let a = c.args.store.now in
    let z = sizes_of S a in
    let f = c.in_ok-sought.ensures in
    whenever-none S z a c.find_row.new.store f.same f.count

pub returns-in_ok-left-in-Some-clause-uses : goal.returns-in_ok-left-in-Some-clause-uses
returns-in_ok-left-in-Some-clause-uses g c =
    let S = g.S.PageRead in
    let a = c.args.store.now in
    let z = sizes_of S a in
    let s = c.find_row.new.store in
    let f = c.in_ok-sought.ensures in
    uses-read S 0 a s c.shrink_leaf.new.store (sizes-same S a s f.owes.stays) f.same f.count c.in_ok-left-in-Some.ensures.uses

pub returns-in_err-sought-clause-refuses : goal.returns-in_err-sought-clause-refuses
returns-in_err-sought-clause-refuses g c = λ m told there.
    let p = err_from_is_err_and c.from_residual.result c.from_residual.ensures.1 in
    rw (p.1, p.2) (c.in_err-sought.ensures.refuses m told there)

pub returns-in_err-left-in-Some-clause-refuses : goal.returns-in_err-left-in-Some-clause-refuses
returns-in_err-left-in-Some-clause-refuses g c = λ m told there.
    let p = err_from_is_err_and c.from_residual-in_err-left-in-Some.result c.from_residual-in_err-left-in-Some.ensures.1 in
    rw (p.1, p.2) (λ levels tree is stands. c.in_err-left-in-Some.ensures.other)
