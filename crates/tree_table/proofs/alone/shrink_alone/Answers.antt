use Rattle.std.proofs.Common.{◌≡◌, ℕ, ℤ, [], Option, Some, refl, ap, ◌∙◌, subst, to_z, of_z, length, arith}
use Rattle.std.proofs.lemmas.Int.{to_z-of_z}
use Rattle.std.proofs.lemmas.Result.{err_from_is_err_and}
use Rattle.std.specs.Int.{w64}
use Rattle.tree_spec.specs.Standing.{Sizes}
use Rattle.tree_pages.specs.Writers.{paged, sizes_of}
use Rattle.tree_pages.specs.WritersLaws.{sizes-same}
use Rattle.tree_level.specs.Changes.{WritesChange}
use Rattle.tree_table.specs.declared.taking.Found.{Found}
use Rattle.tree_table.specs.Deletes.{IsFound, Opens}
use Rattle.tree_table.proofs.Takings.{leaf-shrunk}
use Rattle.tree_table.proofs.alone.shrink_alone.Goals as goal

pub returns-in_ok-write_without-in-Some-clause-deleted : goal.returns-in_ok-write_without-in-Some-clause-deleted
returns-in_ok-write_without-in-Some-clause-deleted g c = λ old told.
    let S = g.S.PageRead in
    let a = c.args.store.now in
    let s = c.find_row.new.store in
    let t = c.write_without.new.store in
    let z = sizes_of S a in
    let page = c.args.page in
    let found = c.in-Some.found in
    let f = c.in_ok-sought.ensures in
    let back = to_z-of_z w64 c.args.rowid c.ranges.rowid in
    let one : sizes_of S s ≡ z = sizes-same S a s f.owes.stays in
    let n = c.in_ok-write_without-in-Some.ensures.written old (f.same ∙ told) in
    let x = paged S a old in
    let w = paged S t n.0 in
    let got : IsFound z (to_z w64 (of_z w64 c.args.rowid)) page x (Some found) = subst (λ (o : Option Found). IsFound z (to_z w64 (of_z w64 c.args.rowid)) page x o) c.in-Some.is (f.found old told) in
    let writes : WritesChange z page found.change [] x w =
    subst (λ (n : ℕ). WritesChange z page found.change [] (record { count = n; pages = old }) w) f.count (subst (λ (m : Sizes). WritesChange m page found.change [] (paged S s old) w) one n.2) in (
      n.0,
      n.1,
      λ there.
          leaf-shrunk z page x there c.requires.page c.requires.kind c.args.rowid found.row found.change (rw c.in-Some.is at f.goes) (rw c.in-Some.is at f.within)
          (subst (λ (r : ℤ). Opens z r found.row page found.change [] x x) back (got there)) w writes (λ few. omega (arith, few, ap length c.as_slice.ensures, c.if-as_slice-lt2.false)) []
          (record { bytes_are = refl; are_cells = tt }),
    )
