use Rattle.std.proofs.Common.{length}
use Rattle.std.proofs.lemmas.Bool.{eqb-true}
use Rattle.tree_table.proofs.Neighbours.{inner-cells}
use Rattle.std.proofs.Common.{slice_get, inl, sym, IfSome}
use Rattle.std.proofs.Math.Path.{subst⁻¹}
use Rattle.std.proofs.lemmas.Result.{err_from_is_err_and, IfErr-weaker}
use Rattle.page_spec.specs.Pages.{IsInRange}
use Rattle.tree_spec.specs.Worlds.{IsFree}
use Rattle.delete_spec.specs.Steps.{IsReady}
use Rattle.tree_pages.specs.Takes.{IsShort}
use Rattle.tree_walk.specs.Places.{child_or}
use Rattle.tree_table.specs.Deletes.{IsFit, Leaves}
use Rattle.tree_table.specs.Needs.{HasBeside, UsesUnder}
use Rattle.tree_table.proofs.Needed.{table-child}
use Rattle.tree_table.proofs.Neighbours.{inner-beside, other-same, below-same, uses-same}
use Rattle.tree_table.proofs.Used.{root-child, root-passed}
use Rattle.std.proofs.Common.{◌≡◌, ℕ, ℤ, Option, Some, None, refl, ◌∙◌, subst, to_z, of_z, ap, arith}
use Rattle.std.proofs.lemmas.Int.{to_z-of_z}
use Rattle.std.specs.Int.{w64}
use Rattle.page_store.specs.StoreLaws.{IfSome-told}
use Rattle.tree_spec.specs.Standing.{Sizes}
use Rattle.delete_spec.specs.Steps.{MissingUnder}
use Rattle.tree_pages.specs.Writers.{paged, sizes_of}
use Rattle.tree_pages.specs.WritersLaws.{sizes-same}
use Rattle.tree_walk.specs.Pages.{IsDecoded}
use Rattle.tree_walk.specs.Places.{rowids}
use Rattle.tree_walk.specs.Seeks.{IsIndexOf}
use Rattle.tree_table.specs.declared.taking.Removed.{Removed}
use Rattle.tree_table.specs.Deletes.{DeletesUnder, LeavesRoot, PassesRoot}
use Rattle.tree_table.proofs.Closings.{inner-missing}
use Rattle.tree_table.proofs.DeletedWorlds.{deletes-same}
use Rattle.tree_table.proofs.Unders.{decoded-own, read-there}
use Rattle.tree_pages.specs.TakesLaws.{rises-read, rises-then}
use Rattle.page_spec.specs.FreePages.{due_pages}
use Rattle.tree_table.proofs.DeletedWorlds.{on-ok_all}
use Rattle.tree_table.proofs.deleting.delete_root.Goals as goal

pub returns-in-None-clause-deleted : goal.returns-in-None-clause-deleted
returns-in-None-clause-deleted g c = λ old told.
    let S = g.S.PageRead in
    let a = c.args.store.now in
    let s = c.read_page.new.store in
    let b = c.delete_below.new.store in
    let rd = c.in_ok-page.ensures in
    let st = c.in_ok-step-in-TableInterior.ensures in
    let gr = c.in_ok-below-in-TableInterior.ensures in
    let page = c.in_ok-page.page in
    let step = c.in_ok-step-in-TableInterior.step in
    let z = sizes_of S a in
    let back = to_z-of_z w64 c.args.rowid c.ranges.rowid in
    let decoded : IsDecoded (old c.args.root) c.args.root (S.usable a) page = IfSome-told (λ p. IsDecoded (p c.args.root) c.args.root (S.usable a) page) old told rd.pages.answer in
    let one : sizes_of S s ≡ z = sizes-same S a s rd.owes.stays in
    let n = gr.deleted old (rd.pages.same ∙ told) in
    let x = paged S a old in
    let y = paged S b n.0 in
    let below : DeletesUnder z step.child c.args.rowid c.in_ok-below-in-TableInterior.below x y =
    deletes-same (sizes_of S s) z step.child step.child (to_z w64 (of_z w64 c.args.rowid)) c.args.rowid (S.count s) (S.count a) c.in_ok-below-in-TableInterior.below old y one refl back rd.pages.count n.2 in
    let there = read-there c.args.root (S.usable a) page old decoded in
    let under : DeletesUnder z step.child c.args.rowid None x y = subst (λ (o : Option Removed). DeletesUnder z step.child c.args.rowid o x y) c.in-None.is below in
    let index : IsIndexOf c.args.rowid (rowids page.views) step.at = subst (λ (q : ℤ). IsIndexOf q (rowids page.views) step.at) back st.index in (
      n.0,
      n.1,
      (
        under.0,
        subst (λ (m : ℕ). MissingUnder z m c.args.rowid x) decoded.number_is
            (inner-missing z page (decoded-own c.args.root z.usable page rd.read) c.in-TableInterior.is x there c.args.rowid step.at step.child index st.child under.1),
      ),
    )

pub returns-in_ok-pass_to_root-in-Some-clause-deleted : goal.returns-in_ok-pass_to_root-in-Some-clause-deleted
returns-in_ok-pass_to_root-in-Some-clause-deleted g c = λ old told.
    let S = g.S.PageRead in
    let a = c.args.store.now in
    let s = c.read_page.new.store in
    let b = c.delete_below.new.store in
    let rd = c.in_ok-page.ensures in
    let st = c.in_ok-step-in-TableInterior.ensures in
    let gr = c.in_ok-below-in-TableInterior.ensures in
    let page = c.in_ok-page.page in
    let step = c.in_ok-step-in-TableInterior.step in
    let z = sizes_of S a in
    let back = to_z-of_z w64 c.args.rowid c.ranges.rowid in
    let decoded : IsDecoded (old c.args.root) c.args.root (S.usable a) page = IfSome-told (λ p. IsDecoded (p c.args.root) c.args.root (S.usable a) page) old told rd.pages.answer in
    let one : sizes_of S s ≡ z = sizes-same S a s rd.owes.stays in
    let n = gr.deleted old (rd.pages.same ∙ told) in
    let x = paged S a old in
    let y = paged S b n.0 in
    let below : DeletesUnder z step.child c.args.rowid c.in_ok-below-in-TableInterior.below x y =
    deletes-same (sizes_of S s) z step.child step.child (to_z w64 (of_z w64 c.args.rowid)) c.args.rowid (S.count s) (S.count a) c.in_ok-below-in-TableInterior.below old y one refl back rd.pages.count n.2 in
    let there = read-there c.args.root (S.usable a) page old decoded in
    let removed = c.in-Some.removed in
    let under : DeletesUnder z step.child c.args.rowid (Some removed) x y = subst (λ (o : Option Removed). DeletesUnder z step.child c.args.rowid o x y) c.in-Some.is below in
    let two : sizes_of S b ≡ z = sizes-same S s b gr.owes.stays ∙ one in
    let k = c.in_ok-pass_to_root-in-Some.ensures.passes n.0 n.1 in
    let w = paged S c.pass_to_root.new.store k.0 in
    let passes : PassesRoot z page step.child removed.left y w = subst (λ (m : Sizes). PassesRoot m page step.child removed.left y w) two k.2 in (
      k.0,
      k.1,
      subst (λ (m : ℕ). LeavesRoot z c.args.rowid removed.row m x w) decoded.number_is (passes c.args.rowid removed.row x there under),
    )

pub returns-in-TableLeaf-clause-rises : goal.returns-in-TableLeaf-clause-rises
returns-in-TableLeaf-clause-rises g c =
    on-ok_all c.delete_in_root.result (omega (arith, ap (due_pages (g.S.PageRead.size c.args.store.now)) (c.delete_in_root.ensures.count ∙ c.in_ok-page.ensures.pages.count)))

pub returns-in-None-clause-rises : goal.returns-in-None-clause-rises
returns-in-None-clause-rises g c =
    let rd = c.in_ok-page.ensures in
    omega (arith, rises-read g.S.PageRead 46 c.args.store.now c.read_page.new.store c.delete_below.new.store rd.owes.stays.size rd.pages.count c.in_ok-below-in-TableInterior.ensures.rises)

pub returns-in_ok-pass_to_root-in-Some-clause-rises : goal.returns-in_ok-pass_to_root-in-Some-clause-rises
returns-in_ok-pass_to_root-in-Some-clause-rises g c =
    let S = g.S.PageRead in
    let a = c.args.store.now in
    let b = c.delete_below.new.store in
    let rd = c.in_ok-page.ensures in
    let gr = c.in_ok-below-in-TableInterior.ensures in
    rises-then S a b c.pass_to_root.new.store 46 4 (gr.owes.stays.size ∙ rd.owes.stays.size) (rises-read S 46 a c.read_page.new.store b rd.owes.stays.size rd.pages.count gr.rises) c.in_ok-pass_to_root-in-Some.ensures.rises

pub returns-in-TableLeaf-clause-refuses : goal.returns-in-TableLeaf-clause-refuses
returns-in-TableLeaf-clause-refuses g c = λ m told.
    let S = g.S.PageRead in
    let a = c.args.store.now in
    let s = c.read_page.new.store in
    let number = c.args.root in
    let z = sizes_of S a in
    let rd = c.in_ok-page.ensures in
    let page = c.in_ok-page.page in
    let one : sizes_of S s ≡ z = sizes-same S a s rd.owes.stays in
    let decoded : IsDecoded (m number) number (S.usable a) page = IfSome-told (λ p. IsDecoded (p number) number (S.usable a) page) m told rd.pages.answer in
    IfErr-weaker c.delete_in_root.result _ _ (λ fault other. λ levels tree trunks low is full free ready.
    inl (other-same (sizes_of S s) z page.number number (S.count s) (S.count a) m fault one decoded.number_is rd.pages.count other levels tree is ready.stands))
    (c.delete_in_root.ensures.refuses m (rd.pages.same ∙ told) (read-there number (S.usable a) page m decoded))

pub returns-in_err-step-in-TableInterior-clause-refuses : goal.returns-in_err-step-in-TableInterior-clause-refuses
returns-in_err-step-in-TableInterior-clause-refuses g c = λ m told.
    let S = g.S.PageRead in
    let a = c.args.store.now in
    let s = c.read_page.new.store in
    let number = c.args.root in
    let z = sizes_of S a in
    let rd = c.in_ok-page.ensures in
    let page = c.in_ok-page.page in
    let one : sizes_of S s ≡ z = sizes-same S a s rd.owes.stays in
    let decoded : IsDecoded (m number) number (S.usable a) page = IfSome-told (λ p. IsDecoded (p number) number (S.usable a) page) m told rd.pages.answer in
    let p = err_from_is_err_and c.from_residual-in_err-step-in-TableInterior.result c.from_residual-in_err-step-in-TableInterior.ensures.1 in
    rw (p.1, p.2)
    (λ levels tree trunks low is full free ready. absurd (c.in_err-step-in-TableInterior.ensures.out (λ at.
    subst⁻¹ (λ (q : ℕ). IsInRange q (S.count s) (child_or page.right (slice_get page.views at))) rd.owes.stays.size
    (subst⁻¹ (λ (q : ℕ). IsInRange (S.size a) q (child_or page.right (slice_get page.views at))) rd.pages.count (table-child z (paged S a m) number levels tree page at is ready.stands decoded c.in-TableInterior.is).in_range))))

pub returns-in_err-below-in-TableInterior-clause-refuses : goal.returns-in_err-below-in-TableInterior-clause-refuses
returns-in_err-below-in-TableInterior-clause-refuses g c = λ m told.
    let S = g.S.PageRead in
    let a = c.args.store.now in
    let s = c.read_page.new.store in
    let number = c.args.root in
    let z = sizes_of S a in
    let rd = c.in_ok-page.ensures in
    let page = c.in_ok-page.page in
    let one : sizes_of S s ≡ z = sizes-same S a s rd.owes.stays in
    let decoded : IsDecoded (m number) number (S.usable a) page = IfSome-told (λ p. IsDecoded (p number) number (S.usable a) page) m told rd.pages.answer in
    let st = c.in_ok-step-in-TableInterior.ensures in
    let step = c.in_ok-step-in-TableInterior.step in
    let named = child_or page.right (slice_get page.views step.at) in
    let fault = c.in_err-below-in-TableInterior.field-0.0 in
    let count = S.count c.delete_below.new.store in
    let most : ℕ = 23 in
    let p = err_from_is_err_and c.from_residual-in_err-below-in-TableInterior.result c.from_residual-in_err-below-in-TableInterior.ensures.1 in
    rw (p.1, p.2)
    (root-child z number page step.at (paged S a m) decoded c.in-TableInterior.is c.args.limit count fault most 24 2 refl (omega arith)
    (below-same (sizes_of S s) z most 1 c.args.limit step.child named (S.count s) (S.count a) count m fault one st.named rd.pages.count (c.in_err-below-in-TableInterior.ensures.refuses m (rd.pages.same ∙ told))))

pub returns-in_err-pass_to_root-in-Some-clause-refuses : goal.returns-in_err-pass_to_root-in-Some-clause-refuses
returns-in_err-pass_to_root-in-Some-clause-refuses g c = λ m told.
    let S = g.S.PageRead in
    let a = c.args.store.now in
    let s = c.read_page.new.store in
    let number = c.args.root in
    let z = sizes_of S a in
    let rd = c.in_ok-page.ensures in
    let page = c.in_ok-page.page in
    let one : sizes_of S s ≡ z = sizes-same S a s rd.owes.stays in
    let decoded : IsDecoded (m number) number (S.usable a) page = IfSome-told (λ p. IsDecoded (p number) number (S.usable a) page) m told rd.pages.answer in
    let b = c.delete_below.new.store in
    let v = c.pass_to_root.new.store in
    let st = c.in_ok-step-in-TableInterior.ensures in
    let step = c.in_ok-step-in-TableInterior.step in
    let named = child_or page.right (slice_get page.views step.at) in
    let gr = c.in_ok-below-in-TableInterior.ensures in
    let two : sizes_of S b ≡ z = sizes-same S s b gr.owes.stays ∙ one in
    let removed = c.in-Some.removed in
    let back = to_z-of_z w64 c.args.rowid c.ranges.rowid in
    let n = gr.deleted m (rd.pages.same ∙ told) in
    let x = paged S a m in
    let y = paged S b n.0 in
    let got : DeletesUnder z step.child c.args.rowid c.in_ok-below-in-TableInterior.below x y =
    deletes-same (sizes_of S s) z step.child step.child (to_z w64 (of_z w64 c.args.rowid)) c.args.rowid (S.count s) (S.count a) c.in_ok-below-in-TableInterior.below m y one refl back rd.pages.count n.2 in
    let leaves : Leaves z c.args.rowid removed.row step.child removed.left x y = subst (λ (o : Option Removed). DeletesUnder z step.child c.args.rowid o x y) c.in-Some.is got in
    let fit : IsFit z.usable removed.left = subst (λ (u : ℕ). IsFit u removed.left) rd.owes.stays.usable (subst (λ (o : Option Removed). IfSome o (λ it. IsFit (S.usable s) it.left)) c.in-Some.is gr.fit) in
    let below : UsesUnder z named x y = uses-same (sizes_of S s) z step.child named (S.count s) (S.count a) m y one st.named rd.pages.count (gr.uses m (rd.pages.same ∙ told) n.0 n.1) in
    let there = read-there number z.usable page m decoded in
    let near = inner-beside z number page x decoded c.in-TableInterior.is y step.at step.child st.within st.named c.args.rowid removed.row removed.left fit leaves in
    let fault = c.in_err-pass_to_root-in-Some.field-0.0 in
    let count = S.count v in
    let limit = c.args.limit in
    let p = err_from_is_err_and c.from_residual-in_err-pass_to_root-in-Some.result c.from_residual-in_err-pass_to_root-in-Some.ensures.1 in
    rw (p.1, p.2)
    (root-passed z number page step.at x decoded c.in-TableInterior.is limit count fault 24 2 4 y (omega arith) below (omega (arith, gr.count, rd.pages.count)) (omega (arith, gr.most, rd.pages.count))
    (λ levels tree trunks is free ready.
    let b = near levels tree trunks is free ready in (
      b.0,
      b.1.free,
      subst (λ (q : Sizes). IsShort q 4 limit y b.0 count fault) two
          (c.in_err-pass_to_root-in-Some.ensures.refuses c.args.rowid removed.row x levels tree trunks there (is ∙ sym decoded.number_is) (subst⁻¹ (λ (q : Sizes). IsFree q x trunks) two free)
          (subst⁻¹ (λ (q : Sizes). IsReady q levels x tree trunks) two ready) n.0 b.0 n.1 (subst⁻¹ (λ (q : Sizes). Leaves q c.args.rowid removed.row step.child removed.left x y) two leaves)
          (subst⁻¹ (λ (q : Sizes). HasBeside q page step.at step.child removed.left y b.0) two b.1)),
    )))

pub returns-then-is_empty-clause-refuses : goal.returns-then-is_empty-clause-refuses
returns-then-is_empty-clause-refuses g c = λ m told levels tree trunks low is full free ready.
    let S = g.S.PageRead in
    let a = c.args.store.now in
    let number = c.args.root in
    let z = sizes_of S a in
    let rd = c.in_ok-page.ensures in
    let page = c.in_ok-page.page in
    let decoded : IsDecoded (m number) number (S.usable a) page = IfSome-told (λ p. IsDecoded (p number) number (S.usable a) page) m told rd.pages.answer in
    let has = table-child z (paged S a m) number levels tree page 0 is ready.stands decoded c.in-TableInterior.is in
    let none : length c.as_slice.result.now ≡ 0 = eqb-true _ 0 (sym c.is_empty.ensures ∙ c.if-is_empty.true) in
    let some = inner-cells z number page (paged S a m) decoded c.in-TableInterior.is levels tree trunks is free ready (full.root (omega (arith, has.levels_are)) (λ one. c.if-root-ne1.true (sym is ∙ one))) in
    absurd (omega (arith, some, none, ap length c.as_slice.ensures))
