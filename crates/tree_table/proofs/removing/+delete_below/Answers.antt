use Rattle.std.proofs.Common.{slice_get, inl, inr, IfSome}
use Rattle.std.proofs.Math.Path.{subst⁻¹}
use Rattle.std.proofs.lemmas.Result.{err_from_is_err_and, IfErr-weaker, on_ok_weaker}
use Rattle.page_spec.specs.Pages.{IsInRange}
use Rattle.tree_spec.specs.Standing.{Sizes, Paged}
use Rattle.tree_pages.specs.Takes.{IsShort, UsesBy}
use Rattle.tree_pages.specs.UsesLaws.{uses-more}
use Rattle.tree_walk.specs.Pages.{IsReadFault}
use Rattle.tree_walk.specs.Places.{child_or}
use Rattle.tree_table.specs.Deletes.{IsFit, Leaves}
use Rattle.tree_table.specs.Needs.{HasBeside, UsesUnder}
use Rattle.tree_table.proofs.Needed.{table-read, table-child}
use Rattle.tree_table.proofs.Neighbours.{inner-beside, inner-some, other-same, below-same, uses-same}
use Rattle.tree_table.proofs.Used.{uses-read, same-told, short-child, short-passed, uses-interior}
use Rattle.std.proofs.Common.{◌≡◌, ℕ, ℤ, Option, None, refl, ◌∙◌, subst, to_z, of_z, ◌*◌, ◌-◌, ap, arith}
use Rattle.std.proofs.lemmas.Int.{to_z-of_z}
use Rattle.std.specs.Int.{w64}
use Rattle.page_store.specs.StoreLaws.{IfSome-told}
use Rattle.delete_spec.specs.Steps.{MissingUnder}
use Rattle.tree_pages.specs.Writers.{paged, sizes_of}
use Rattle.tree_pages.specs.WritersLaws.{sizes-same}
use Rattle.tree_walk.specs.Pages.{IsDecoded}
use Rattle.tree_walk.specs.Places.{rowids}
use Rattle.tree_walk.specs.Seeks.{IsIndexOf}
use Rattle.tree_table.specs.declared.taking.Removed.{Removed}
use Rattle.tree_table.specs.Deletes.{DeletesUnder}
use Rattle.tree_table.proofs.Closings.{inner-missing}
use Rattle.tree_table.proofs.DeletedWorlds.{deletes-same}
use Rattle.tree_table.proofs.Unders.{decoded-own, read-there}
use Rattle.tree_pages.specs.TakesLaws.{rises-read, rises-then}
use Rattle.page_spec.specs.FreePages.{due_pages}
use Rattle.tree_table.proofs.DeletedWorlds.{on-ok_all}
use Rattle.tree_table.proofs.removing.+delete_below.Goals as goal

pub returns-in-None-clause-deleted : goal.returns-in-None-clause-deleted
returns-in-None-clause-deleted g t c = λ old told.
    let S = g.S.PageRead in
    let a = c.args.store.now in
    let s = c.read_page.new.store in
    let b = c.delete_below.new.store in
    let rd = c.in_ok-page.ensures in
    let st = c.in_ok-step-in-TableInterior.ensures in
    let gr = c.in_ok-below-in-TableInterior.ensures in
    let page = c.in_ok-page.page in
    let step = c.in_ok-step-in-TableInterior.step in
    let z = sizes_of S a in
    let back = to_z-of_z w64 c.args.rowid c.ranges.rowid in
    let decoded : IsDecoded (old c.args.number) c.args.number (S.usable a) page = IfSome-told (λ p. IsDecoded (p c.args.number) c.args.number (S.usable a) page) old told rd.pages.answer in
    let one : sizes_of S s ≡ z = sizes-same S a s rd.owes.stays in
    let n = gr.deleted old (rd.pages.same ∙ told) in
    let x = paged S a old in
    let y = paged S b n.0 in
    let below : DeletesUnder z step.child c.args.rowid c.in_ok-below-in-TableInterior.below x y =
    deletes-same (sizes_of S s) z step.child step.child (to_z w64 (of_z w64 c.args.rowid)) c.args.rowid (S.count s) (S.count a) c.in_ok-below-in-TableInterior.below old y one refl back rd.pages.count n.2 in
    let there = read-there c.args.number (S.usable a) page old decoded in
    let under : DeletesUnder z step.child c.args.rowid None x y = subst (λ (o : Option Removed). DeletesUnder z step.child c.args.rowid o x y) c.in-None.is below in
    let index : IsIndexOf c.args.rowid (rowids page.views) step.at = subst (λ (q : ℤ). IsIndexOf q (rowids page.views) step.at) back st.index in (
      n.0,
      n.1,
      (
        under.0,
        subst (λ (m : ℕ). MissingUnder z m c.args.rowid x) decoded.number_is
            (inner-missing z page (decoded-own c.args.number z.usable page rd.read) c.in-TableInterior.is x there c.args.rowid step.at step.child index st.child under.1),
      ),
    )

pub returns-in-TableLeaf-clause-rises : goal.returns-in-TableLeaf-clause-rises
returns-in-TableLeaf-clause-rises g t c =
    on-ok_all c.delete_in_leaf.result (omega (arith, ap (due_pages (g.S.PageRead.size c.args.store.now)) (c.delete_in_leaf.ensures.count ∙ c.in_ok-page.ensures.pages.count)))

pub returns-in-None-clause-rises : goal.returns-in-None-clause-rises
returns-in-None-clause-rises g t c =
    let rd = c.in_ok-page.ensures in
    omega (arith, rises-read g.S.PageRead (2 * (c.args.levels - 1)) c.args.store.now c.read_page.new.store c.delete_below.new.store rd.owes.stays.size rd.pages.count c.in_ok-below-in-TableInterior.ensures.rises)

pub returns-in_ok-left-in-Some-clause-rises : goal.returns-in_ok-left-in-Some-clause-rises
returns-in_ok-left-in-Some-clause-rises g t c =
    let S = g.S.PageRead in
    let a = c.args.store.now in
    let b = c.delete_below.new.store in
    let rd = c.in_ok-page.ensures in
    let gr = c.in_ok-below-in-TableInterior.ensures in
    let below = rises-read S (2 * (c.args.levels - 1)) a c.read_page.new.store b rd.owes.stays.size rd.pages.count gr.rises in
    omega (arith, c.in_ok-check_inner-in-TableInterior.ensures.deep, rises-then S a b c.pass_on.new.store (2 * (c.args.levels - 1)) 2 (gr.owes.stays.size ∙ rd.owes.stays.size) below c.in_ok-left-in-Some.ensures.rises)

pub returns-in_err-page-clause-refuses : goal.returns-in_err-page-clause-refuses
returns-in_err-page-clause-refuses g t c = λ m told.
    let S = g.S.PageRead in
    let a = c.args.store.now in
    let s = c.read_page.new.store in
    let number = c.args.number in
    let z = sizes_of S a in
    let fault = c.in_err-page.field-0.0 in
    let bad : IsReadFault (m number) number (S.usable a) fault = IfSome-told (λ p. IsReadFault (p number) number (S.usable a) fault) m told c.in_err-page.ensures.pages.answer in
    let p = err_from_is_err_and c.from_residual.result c.from_residual.ensures.1 in
    rw (p.1, p.2) (λ levels tree trunks low is full free ready. inl (table-read z (paged S a m) number levels tree fault is ready.stands bad))

pub returns-in-TableLeaf-clause-uses : goal.returns-in-TableLeaf-clause-uses
returns-in-TableLeaf-clause-uses g t c =
    let S = g.S.PageRead in
    let a = c.args.store.now in
    let s = c.read_page.new.store in
    let number = c.args.number in
    let z = sizes_of S a in
    let rd = c.in_ok-page.ensures in
    let v = c.delete_in_leaf.new.store in
    on_ok_weaker c.delete_in_leaf.result (λ uses. λ old told new later levels tree trunks is free ready.
    uses-more z (paged S a old) (paged S v new) 0 (2 * levels) (omega arith) (uses-read S 0 a s v (sizes-same S a s rd.owes.stays) rd.pages.same rd.pages.count uses old told new later)) c.delete_in_leaf.ensures.uses

pub returns-in-TableLeaf-clause-refuses : goal.returns-in-TableLeaf-clause-refuses
returns-in-TableLeaf-clause-refuses g t c = λ m told.
    let S = g.S.PageRead in
    let a = c.args.store.now in
    let s = c.read_page.new.store in
    let number = c.args.number in
    let z = sizes_of S a in
    let rd = c.in_ok-page.ensures in
    let page = c.in_ok-page.page in
    let one : sizes_of S s ≡ z = sizes-same S a s rd.owes.stays in
    let decoded : IsDecoded (m number) number (S.usable a) page = IfSome-told (λ p. IsDecoded (p number) number (S.usable a) page) m told rd.pages.answer in
    IfErr-weaker c.delete_in_leaf.result _ _ (λ fault other. λ levels tree trunks low is full free ready.
    inl (other-same (sizes_of S s) z page.number number (S.count s) (S.count a) m fault one decoded.number_is rd.pages.count other levels tree is ready.stands))
    (c.delete_in_leaf.ensures.refuses m (rd.pages.same ∙ told) (read-there number (S.usable a) page m decoded))

pub returns-in_err-check_inner-in-TableInterior-clause-refuses : goal.returns-in_err-check_inner-in-TableInterior-clause-refuses
returns-in_err-check_inner-in-TableInterior-clause-refuses g t c = λ m told.
    let S = g.S.PageRead in
    let a = c.args.store.now in
    let s = c.read_page.new.store in
    let number = c.args.number in
    let z = sizes_of S a in
    let rd = c.in_ok-page.ensures in
    let page = c.in_ok-page.page in
    let one : sizes_of S s ≡ z = sizes-same S a s rd.owes.stays in
    let decoded : IsDecoded (m number) number (S.usable a) page = IfSome-told (λ p. IsDecoded (p number) number (S.usable a) page) m told rd.pages.answer in
    let p = err_from_is_err_and c.from_residual-in_err-check_inner-in-TableInterior.result c.from_residual-in_err-check_inner-in-TableInterior.ensures.1 in
    rw (p.1, p.2)
    (λ levels tree trunks low is full free ready. absurd (elim c.in_err-check_inner-in-TableInterior.ensures.refused [
      | inl deep ↦ let has = table-child z (paged S a m) number levels tree page 0 is ready.stands decoded c.in-TableInterior.is in omega (arith, low, deep, has.levels_are)
      | inr none ↦ omega (arith, none, inner-some z number page (paged S a m) decoded c.in-TableInterior.is levels tree trunks is free ready full)
    ]))

pub returns-in_err-step-in-TableInterior-clause-refuses : goal.returns-in_err-step-in-TableInterior-clause-refuses
returns-in_err-step-in-TableInterior-clause-refuses g t c = λ m told.
    let S = g.S.PageRead in
    let a = c.args.store.now in
    let s = c.read_page.new.store in
    let number = c.args.number in
    let z = sizes_of S a in
    let rd = c.in_ok-page.ensures in
    let page = c.in_ok-page.page in
    let one : sizes_of S s ≡ z = sizes-same S a s rd.owes.stays in
    let decoded : IsDecoded (m number) number (S.usable a) page = IfSome-told (λ p. IsDecoded (p number) number (S.usable a) page) m told rd.pages.answer in
    let p = err_from_is_err_and c.from_residual-in_err-step-in-TableInterior.result c.from_residual-in_err-step-in-TableInterior.ensures.1 in
    rw (p.1, p.2)
    (λ levels tree trunks low is full free ready. absurd (c.in_err-step-in-TableInterior.ensures.out (λ at.
    subst⁻¹ (λ (q : ℕ). IsInRange q (S.count s) (child_or page.right (slice_get page.views at))) rd.owes.stays.size
    (subst⁻¹ (λ (q : ℕ). IsInRange (S.size a) q (child_or page.right (slice_get page.views at))) rd.pages.count (table-child z (paged S a m) number levels tree page at is ready.stands decoded c.in-TableInterior.is).in_range))))

pub returns-in_err-below-in-TableInterior-clause-refuses : goal.returns-in_err-below-in-TableInterior-clause-refuses
returns-in_err-below-in-TableInterior-clause-refuses g t c = λ m told.
    let S = g.S.PageRead in
    let a = c.args.store.now in
    let s = c.read_page.new.store in
    let number = c.args.number in
    let z = sizes_of S a in
    let rd = c.in_ok-page.ensures in
    let page = c.in_ok-page.page in
    let one : sizes_of S s ≡ z = sizes-same S a s rd.owes.stays in
    let decoded : IsDecoded (m number) number (S.usable a) page = IfSome-told (λ p. IsDecoded (p number) number (S.usable a) page) m told rd.pages.answer in
    let st = c.in_ok-step-in-TableInterior.ensures in
    let step = c.in_ok-step-in-TableInterior.step in
    let named = child_or page.right (slice_get page.views step.at) in
    let fault = c.in_err-below-in-TableInterior.field-0.0 in
    let count = S.count c.delete_below.new.store in
    let most = c.args.levels - 1 in
    let p = err_from_is_err_and c.from_residual-in_err-below-in-TableInterior.result c.from_residual-in_err-below-in-TableInterior.ensures.1 in
    rw (p.1, p.2)
    (short-child z number page step.at (paged S a m) decoded c.in-TableInterior.is c.args.limit count fault most c.args.levels 1 (omega (arith, c.in_ok-check_inner-in-TableInterior.ensures.deep)) (omega arith)
    (below-same (sizes_of S s) z most 1 c.args.limit step.child named (S.count s) (S.count a) count m fault one st.named rd.pages.count (c.in_err-below-in-TableInterior.ensures.refuses m (rd.pages.same ∙ told))))

pub returns-in_err-left-in-Some-clause-refuses : goal.returns-in_err-left-in-Some-clause-refuses
returns-in_err-left-in-Some-clause-refuses g t c = λ m told.
    let S = g.S.PageRead in
    let a = c.args.store.now in
    let s = c.read_page.new.store in
    let number = c.args.number in
    let z = sizes_of S a in
    let rd = c.in_ok-page.ensures in
    let page = c.in_ok-page.page in
    let one : sizes_of S s ≡ z = sizes-same S a s rd.owes.stays in
    let decoded : IsDecoded (m number) number (S.usable a) page = IfSome-told (λ p. IsDecoded (p number) number (S.usable a) page) m told rd.pages.answer in
    let b = c.delete_below.new.store in
    let v = c.pass_on.new.store in
    let st = c.in_ok-step-in-TableInterior.ensures in
    let step = c.in_ok-step-in-TableInterior.step in
    let named = child_or page.right (slice_get page.views step.at) in
    let gr = c.in_ok-below-in-TableInterior.ensures in
    let two : sizes_of S b ≡ z = sizes-same S s b gr.owes.stays ∙ one in
    let removed = c.in-Some.removed in
    let back = to_z-of_z w64 c.args.rowid c.ranges.rowid in
    let n = gr.deleted m (rd.pages.same ∙ told) in
    let x = paged S a m in
    let y = paged S b n.0 in
    let got : DeletesUnder z step.child c.args.rowid c.in_ok-below-in-TableInterior.below x y =
    deletes-same (sizes_of S s) z step.child step.child (to_z w64 (of_z w64 c.args.rowid)) c.args.rowid (S.count s) (S.count a) c.in_ok-below-in-TableInterior.below m y one refl back rd.pages.count n.2 in
    let leaves : Leaves z c.args.rowid removed.row step.child removed.left x y = subst (λ (o : Option Removed). DeletesUnder z step.child c.args.rowid o x y) c.in-Some.is got in
    let fit : IsFit z.usable removed.left = subst (λ (u : ℕ). IsFit u removed.left) rd.owes.stays.usable (subst (λ (o : Option Removed). IfSome o (λ it. IsFit (S.usable s) it.left)) c.in-Some.is gr.fit) in
    let below : UsesUnder z named x y = uses-same (sizes_of S s) z step.child named (S.count s) (S.count a) m y one st.named rd.pages.count (gr.uses m (rd.pages.same ∙ told) n.0 n.1) in
    let near = inner-beside z number page x decoded c.in-TableInterior.is y step.at step.child st.within st.named c.args.rowid removed.row removed.left fit leaves in
    let fault = c.in_err-left-in-Some.field-0.0 in
    let count = S.count v in
    let limit = c.args.limit in
    let p = err_from_is_err_and c.from_residual-in_err-left-in-Some.result c.from_residual-in_err-left-in-Some.ensures.1 in
    rw (p.1, p.2)
    (short-passed z number page step.at x decoded c.in-TableInterior.is limit count fault c.args.levels 1 3 y (omega arith) below (omega (arith, gr.count, rd.pages.count)) (omega (arith, gr.most, rd.pages.count))
    (λ levels tree trunks is full free ready.
    let b = near levels tree trunks is free ready in (
      b.0,
      b.1.free,
      subst (λ (q : Sizes). IsShort q 3 limit y b.0 count fault) two
          (c.in_err-left-in-Some.ensures.refuses n.0 b.0 n.1 (subst⁻¹ (λ (q : Sizes). HasBeside q page step.at step.child removed.left y b.0) two b.1)),
    )))

pub returns-in-None-clause-uses : goal.returns-in-None-clause-uses
returns-in-None-clause-uses g t c = λ old told new later levels tree trunks is free ready.
    let S = g.S.PageRead in
    let a = c.args.store.now in
    let s = c.read_page.new.store in
    let number = c.args.number in
    let z = sizes_of S a in
    let rd = c.in_ok-page.ensures in
    let page = c.in_ok-page.page in
    let one : sizes_of S s ≡ z = sizes-same S a s rd.owes.stays in
    let decoded : IsDecoded (old number) number (S.usable a) page = IfSome-told (λ p. IsDecoded (p number) number (S.usable a) page) old told rd.pages.answer in
    let b = c.delete_below.new.store in
    let gr = c.in_ok-below-in-TableInterior.ensures in
    let n = gr.deleted old (rd.pages.same ∙ told) in
    let step = c.in_ok-step-in-TableInterior.step in
    let same = (subst (λ (o : Option Removed). DeletesUnder (sizes_of S s) step.child (to_z w64 (of_z w64 c.args.rowid)) o (paged S s old) (paged S b n.0)) c.in-None.is n.2).0 in
    let x = paged S a old in
    let whole : paged S b new ≡ x =
    ap (paged S b) (same-told S b new n.0 later n.1) ∙ same ∙ ap (λ (q : ℕ). let p : Paged = record { count = q; pages = old } in p) rd.pages.count in
    subst⁻¹ (UsesBy z (2 * levels) x) whole (omega arith)

pub returns-in_ok-left-in-Some-clause-uses : goal.returns-in_ok-left-in-Some-clause-uses
returns-in_ok-left-in-Some-clause-uses g t c = λ old told new later.
    let S = g.S.PageRead in
    let a = c.args.store.now in
    let s = c.read_page.new.store in
    let number = c.args.number in
    let z = sizes_of S a in
    let rd = c.in_ok-page.ensures in
    let page = c.in_ok-page.page in
    let one : sizes_of S s ≡ z = sizes-same S a s rd.owes.stays in
    let decoded : IsDecoded (old number) number (S.usable a) page = IfSome-told (λ p. IsDecoded (p number) number (S.usable a) page) old told rd.pages.answer in
    let b = c.delete_below.new.store in
    let v = c.pass_on.new.store in
    let st = c.in_ok-step-in-TableInterior.ensures in
    let step = c.in_ok-step-in-TableInterior.step in
    let named = child_or page.right (slice_get page.views step.at) in
    let gr = c.in_ok-below-in-TableInterior.ensures in
    let two : sizes_of S b ≡ z = sizes-same S s b gr.owes.stays ∙ one in
    let removed = c.in-Some.removed in
    let back = to_z-of_z w64 c.args.rowid c.ranges.rowid in
    let n = gr.deleted old (rd.pages.same ∙ told) in
    let x = paged S a old in
    let y = paged S b n.0 in
    let got : DeletesUnder z step.child c.args.rowid c.in_ok-below-in-TableInterior.below x y =
    deletes-same (sizes_of S s) z step.child step.child (to_z w64 (of_z w64 c.args.rowid)) c.args.rowid (S.count s) (S.count a) c.in_ok-below-in-TableInterior.below old y one refl back rd.pages.count n.2 in
    let leaves : Leaves z c.args.rowid removed.row step.child removed.left x y = subst (λ (o : Option Removed). DeletesUnder z step.child c.args.rowid o x y) c.in-Some.is got in
    let fit : IsFit z.usable removed.left = subst (λ (u : ℕ). IsFit u removed.left) rd.owes.stays.usable (subst (λ (o : Option Removed). IfSome o (λ it. IsFit (S.usable s) it.left)) c.in-Some.is gr.fit) in
    let below : UsesUnder z named x y = uses-same (sizes_of S s) z step.child named (S.count s) (S.count a) old y one st.named rd.pages.count (gr.uses old (rd.pages.same ∙ told) n.0 n.1) in
    let near = inner-beside z number page x decoded c.in-TableInterior.is y step.at step.child st.within st.named c.args.rowid removed.row removed.left fit leaves in
    let w = paged S v new in
    uses-interior z number page step.at x decoded c.in-TableInterior.is y w below
    (λ levels tree trunks is free ready.
    let b = near levels tree trunks is free ready in
    subst (λ (q : Sizes). UsesBy q 2 y w) two
    (c.in_ok-left-in-Some.ensures.uses n.0 n.1 new later b.0 (subst⁻¹ (λ (q : Sizes). HasBeside q page step.at step.child removed.left y b.0) two b.1)))
