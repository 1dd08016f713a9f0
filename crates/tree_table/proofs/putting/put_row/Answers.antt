use Rattle.std.proofs.Common.{◌≡◌, ℕ, ℤ, List, [], refl, sym, inl, ap, ◌∙◌, subst, to_z, of_z, arith}
use Rattle.std.proofs.Math.Path.{subst⁻¹}
use Rattle.std.proofs.lemmas.Int.{to_z-of_z}
use Rattle.std.proofs.lemmas.Result.{IfErr-weaker, IfOk-weaker, err_from_is_err_and, on_ok_weaker}
use Rattle.std.specs.Int.{w64}
use Rattle.page_spec.specs.FreePages.{due_pages}
use Rattle.tree_spec.specs.declared.TreeKind.TheVariants.{Table}
use Rattle.format_spec.specs.declared.PageKind.TheVariants.{TableLeaf}
use Rattle.format_spec.specs.Cell.{IsCell}
use Rattle.put_spec.specs.Steps.{PutBelow}
use Rattle.put_spec.specs.ParentsLaws.{root-step}
use Rattle.tree_spec.specs.Standing.{Sizes}
use Rattle.tree_pages.specs.Takes.{RisesBy}
use Rattle.tree_pages.specs.TakesLaws.{rises-read}
use Rattle.tree_pages.specs.Writers.{paged, sizes_of}
use Rattle.tree_pages.specs.WritersLaws.{sizes-same}
use Rattle.tree_table.proofs.Needed.{short-same}
use Rattle.tree_table.proofs.Unders.{into-same}
use Rattle.tree_table.proofs.putting.put_row.Goals as goal

pub put_in_leaf-requires-clause-cell : goal.put_in_leaf-requires-clause-cell
put_in_leaf-requires-clause-cell g c = let one = c.requires.cell in rw c.as_slice.ensures (one.0, one.1)

pub returns-then-did-clause-put : goal.returns-then-did-clause-put
returns-then-did-clause-put g c = λ old told.
    let S = g.S.PageRead in
    let a = c.args.store.now in
    let z = sizes_of S a in
    let back = to_z-of_z w64 c.args.rowid c.ranges.rowid in
    let r = c.in_ok-did.ensures.put c.if-did.true old told in
    let y = paged S c.put_in_leaf.new.store r.0 in (
      r.0,
      r.1,
      λ levels tree low high view is stands order cell rowid.
          root-step z Table levels c.args.root (record { bytes = c.args.cell; view = view }) (paged S a old) y 0 0
          (subst (λ (bytes : List ℕ). PutBelow z Table levels c.args.root (record { bytes = bytes; view = view }) (paged S a old) y [] 0 0) c.as_slice.ensures
          (r.2 levels tree low high view is stands order (subst⁻¹ (λ (bytes : List ℕ). IsCell TableLeaf z.usable bytes view) c.as_slice.ensures cell) (rowid ∙ sym back))),
    )

pub returns-then-did-clause-rises : goal.returns-then-did-clause-rises
returns-then-did-clause-rises g c = omega (arith, ap (due_pages (g.S.PageRead.size c.args.store.now)) c.in_ok-did.ensures.count)

pub returns-in_err-did-clause-refuses : goal.returns-in_err-did-clause-refuses
returns-in_err-did-clause-refuses g c = λ m told.
    let p = err_from_is_err_and c.from_residual.result c.from_residual.ensures.1 in
    rw (p.1, p.2) (λ levels tree trunks low is stands free within. inl c.in_err-did.ensures.other)

pub returns-clause-put : goal.returns-clause-put
returns-clause-put g c =
    let S = g.S.PageRead in
    let a = c.args.store.now in
    let s = c.put_in_leaf.new.store in
    let back = to_z-of_z w64 c.args.rowid c.ranges.rowid in
    let did = c.in_ok-did.ensures in
    let same = did.same c.if-did.false in
    IfOk-weaker c.put_root.result _ _ (λ chain puts. λ old told.
    let r = puts old (same ∙ told) in
    let v = paged S c.put_root.new.store r.0 in (
      r.0,
      r.1,
      λ levels tree low high view is stands order cell rowid.
          into-same (sizes_of S s) (sizes_of S a) c.args.root c.args.root (to_z w64 (of_z w64 c.args.rowid)) c.args.rowid (S.count s) (S.count a) c.args.cell chain.first chain.bytes old v (sizes-same S a s did.owes.stays) refl back
          did.count r.2 view cell rowid levels,
    )) c.put_root.ensures.put

pub returns-clause-rises : goal.returns-clause-rises
returns-clause-rises g c =
    let S = g.S.PageRead in
    let a = c.args.store.now in
    let s = c.put_in_leaf.new.store in
    let did = c.in_ok-did.ensures in
    on_ok_weaker c.put_root.result (λ (rises : RisesBy S 51 s c.put_root.new.store). let all = rises-read S 51 a s c.put_root.new.store did.owes.stays.size did.count rises in omega (arith, all)) c.put_root.ensures.rises

pub returns-clause-refuses : goal.returns-clause-refuses
returns-clause-refuses g c = λ m told.
    let S = g.S.PageRead in
    let a = c.args.store.now in
    let s = c.put_in_leaf.new.store in
    let did = c.in_ok-did.ensures in
    let same = did.same c.if-did.false in
    let one : sizes_of S s ≡ sizes_of S a = sizes-same S a s did.owes.stays in
    IfErr-weaker c.put_root.result _ _ (λ fault short. short-same (sizes_of S s) (sizes_of S a) 24 3 c.args.limit c.args.root c.args.root (S.count s) (S.count a) (S.count c.put_root.new.store) m fault one refl did.count short)
    (c.put_root.ensures.refuses m (same ∙ told))
