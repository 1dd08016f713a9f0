use Rattle.std.proofs.Common.{◌≡◌, ℕ, refl, sym, ap, ◌∙◌, subst, arith, length, inl, true, false, slice_get, Option, Some, IfSome, ◌≤◌, None}
use Rattle.std.proofs.Math.Path.{subst⁻¹}
use Rattle.std.proofs.lemmas.Result.{err_from_is_err_and, IfErr-weaker, IfOk-weaker}
use Rattle.tree_pages.specs.Writers.{paged, sizes_of}
use Rattle.tree_pages.specs.WritersLaws.{sizes-same}
use Rattle.tree_spec.specs.Standing.{Sizes}
use Rattle.tree_walk.specs.Pages.{IsDecoded}
use Rattle.tree_spec.specs.Worlds.{IsFree}
use Rattle.tree_pages.specs.Takes.{IsShort, RisesBy}
use Rattle.tree_walk.specs.Places.{child_or}
use Rattle.index_delete.specs.Deletes.{IsFit, Leaves, below_most, root_most, PassesRoot}
use Rattle.index_delete.specs.Needs.{HasBeside, UsesBelow}
use Rattle.index_delete.specs.UsesLaws.{whenever-read}
use Rattle.index_delete.specs.NeighboursLaws.{inner-beside, inner-deep, inner-named, short-child, short-passed, where-same, full-child, root-enough, views-own}
use Rattle.tree_index.specs.ReadsLaws.{read-there, entries-child}
use Rattle.index_removal.proofs.Entries.{inner-misses, cell-equal}
use Rattle.index_removal.proofs.Transports.{deletes-same, into-same, on-ok_all, found-back}
use Rattle.index_removal.specs.Deletes.{DeletesUnder, DeletesInto, IsMissing}
use Rattle.index_removal.specs.Needs.{UsesUnder, removed_most, IsFullIndex, IsFullRootIndex}
use Rattle.index_delete.specs.declared.closing.Removed.{Removed}
use Rattle.index_delete_spec.specs.Steps.{DeleteInto, IsReady}
use Rattle.index_cells.specs.Respelling.{cell_of}
use Rattle.tree_index.specs.Searches.{IsSought, IsWithin}
use Rattle.page_spec.specs.Pages.{IsInRange}
use Rattle.tree_pages.specs.TakesLaws.{rises-read, rises-then}
use Rattle.page_spec.specs.FreePages.{due_pages}
use Rattle.tree_spec.specs.Trees.{IsFullRoot}
use Rattle.tree_index.specs.PlacesLaws.{decoded-own}
use Rattle.std.proofs.lemmas.Bool.{eqb-true}
use Rattle.index_removal.proofs.deleting.delete_root.Goals as goal

pub returns-in_err-found-clause-refuses : goal.returns-in_err-found-clause-refuses
returns-in_err-found-clause-refuses g c = λ m told.
    let p = err_from_is_err_and c.from_residual.result c.from_residual.ensures.1 in
    rw (p.1, p.2) (λ levels tree trunks low is holds free ready. inl (c.in_err-found.ensures.refuses m told levels tree is ready.stands holds.1))

pub returns-in-IndexLeaf-clause-deleted : goal.returns-in-IndexLeaf-clause-deleted
returns-in-IndexLeaf-clause-deleted g c =
    let S = g.S.PageRead in
    let a = c.args.store.now in
    let s = c.find.new.store in
    let number = c.args.root in
    let z = sizes_of S a in
    let f = c.in_ok-found.ensures in
    let found = c.in_ok-found.found in
    let page = found.page in
    let payload = c.args.payload.now in
    let order = c.args.order.now in
    let one : sizes_of S s ≡ z = sizes-same S a s f.owes.stays in
    IfOk-weaker c.delete_in_leaf.result _ _ (λ taken made. λ old told.
    let is_found = f.found old told in
    let n = made old (f.same ∙ told) in
    let y = paged S c.delete_in_leaf.new.store n.0 in
    let same = is_found.decoded.number_is in
    let got = n.2 order payload c.requires.entry (found-back (sizes_of S s) z order payload page.number number (S.count s) (S.count a) found old one same f.count is_found) in
    (n.0, n.1, subst (λ (p : ℕ). DeletesInto z order payload p taken (paged S a old) y) same (into-same (sizes_of S s) z order payload page.number (S.count s) (S.count a) taken old y one f.count got))) c.delete_in_leaf.ensures.deleted

pub returns-in-IndexLeaf-clause-rises : goal.returns-in-IndexLeaf-clause-rises
returns-in-IndexLeaf-clause-rises g c =
    on-ok_all c.delete_in_leaf.result (omega (arith, ap (due_pages (g.S.PageRead.size c.args.store.now)) (c.delete_in_leaf.ensures.count ∙ c.in_ok-found.ensures.count)))

pub returns-in-IndexLeaf-clause-refuses : goal.returns-in-IndexLeaf-clause-refuses
returns-in-IndexLeaf-clause-refuses g c = λ m told. IfErr-weaker c.delete_in_leaf.result _ _ (λ fault other. λ levels tree trunks low is holds free ready. inl other) c.delete_in_leaf.ensures.other

pub returns-then-is_empty-clause-refuses : goal.returns-then-is_empty-clause-refuses
returns-then-is_empty-clause-refuses g c = λ m told levels tree trunks low is holds free ready.
    let S = g.S.PageRead in
    let a = c.args.store.now in
    let s = c.find.new.store in
    let number = c.args.root in
    let z = sizes_of S a in
    let f = c.in_ok-found.ensures in
    let found = c.in_ok-found.found in
    let page = found.page in
    let payload = c.args.payload.now in
    let order = c.args.order.now in
    let one : sizes_of S s ≡ z = sizes-same S a s f.owes.stays in
    let is_found = f.found m told in
    let decoded : IsDecoded (m number) number z.usable page = is_found.decoded in
    let there = read-there number z.usable page m decoded in
    let own = decoded-own number z.usable page f.read in
    let x = paged S a m in
    let kind = c.in-IndexInterior.is in
    let none : length c.as_slice.result.now ≡ 0 = eqb-true _ 0 (sym c.is_empty.ensures ∙ c.if-is_empty.true) in
    let some = holds.0.root (inner-deep z number page x decoded kind levels tree is ready.stands) (λ first. c.if-root-ne1.true (sym is ∙ first)) in
    absurd (omega (arith, some, views-own z x number page decoded levels tree is ready.stands, none, ap length c.as_slice.ensures))

pub returns-in_ok-taken-in-Present-clause-deleted : goal.returns-in_ok-taken-in-Present-clause-deleted
returns-in_ok-taken-in-Present-clause-deleted g c = λ old told.
    let S = g.S.PageRead in
    let a = c.args.store.now in
    let s = c.find.new.store in
    let number = c.args.root in
    let z = sizes_of S a in
    let f = c.in_ok-found.ensures in
    let found = c.in_ok-found.found in
    let page = found.page in
    let payload = c.args.payload.now in
    let order = c.args.order.now in
    let one : sizes_of S s ≡ z = sizes-same S a s f.owes.stays in
    let is_found = f.found old told in
    let decoded : IsDecoded (old number) number z.usable page = is_found.decoded in
    let there = read-there number z.usable page old decoded in
    let own = decoded-own number z.usable page f.read in
    let x = paged S a old in
    let taken = c.in_ok-taken-in-Present.taken in
    let r = c.in_ok-taken-in-Present.ensures in
    let n = r.deleted old (f.same ∙ told) in
    let y = paged S c.replace_below.new.store n.0 in
    let sought = subst (IsSought old z.size z.usable x.count page order payload) c.in-Present.is is_found.sought in
    let into = subst (λ (m : Sizes). DeleteInto m (cell_of taken) page.number x y) one (subst (λ (n : ℕ). DeleteInto (sizes_of S s) (cell_of taken) page.number (record { count = n; pages = old }) y) f.count (n.2 there)) in (
      n.0,
      n.1,
      (
        subst (λ (p : ℕ). DeleteInto z (cell_of taken) p x y) decoded.number_is into,
        cell-equal z order payload c.requires.entry page x there own c.in-Present.at sought taken r.row,
      ),
    )

pub returns-in_ok-taken-in-Present-clause-rises : goal.returns-in_ok-taken-in-Present-clause-rises
returns-in_ok-taken-in-Present-clause-rises g c =
    let f = c.in_ok-found.ensures in
    rises-read g.S.PageRead 51 c.args.store.now c.find.new.store c.replace_below.new.store f.owes.stays.size f.count c.in_ok-taken-in-Present.ensures.rises

pub returns-in_err-taken-in-Present-clause-refuses : goal.returns-in_err-taken-in-Present-clause-refuses
returns-in_err-taken-in-Present-clause-refuses g c = λ m told.
    let S = g.S.PageRead in
    let a = c.args.store.now in
    let s = c.find.new.store in
    let number = c.args.root in
    let z = sizes_of S a in
    let f = c.in_ok-found.ensures in
    let found = c.in_ok-found.found in
    let page = found.page in
    let payload = c.args.payload.now in
    let order = c.args.order.now in
    let one : sizes_of S s ≡ z = sizes-same S a s f.owes.stays in
    let is_found = f.found m told in
    let decoded : IsDecoded (m number) number z.usable page = is_found.decoded in
    let there = read-there number z.usable page m decoded in
    let own = decoded-own number z.usable page f.read in
    let x = paged S a m in
    let fault = c.in_err-taken-in-Present.field-0.0 in
    let count = S.count c.replace_below.new.store in
    let short = where-same (sizes_of S s) z IsFullRoot 24 3 c.args.limit page.number number (S.count s) (S.count a) count m fault one decoded.number_is f.count (c.in_err-taken-in-Present.ensures.refuses m (f.same ∙ told) there) in
    let p = err_from_is_err_and c.from_residual-in_err-taken-in-Present.result c.from_residual-in_err-taken-in-Present.ensures.1 in
    rw (p.1, p.2) (λ levels tree trunks low is holds free ready. short levels tree trunks low is holds.0 free ready)

pub returns-in_err-child-in-At-clause-refuses : goal.returns-in_err-child-in-At-clause-refuses
returns-in_err-child-in-At-clause-refuses g c = λ m told.
    let S = g.S.PageRead in
    let a = c.args.store.now in
    let s = c.find.new.store in
    let number = c.args.root in
    let z = sizes_of S a in
    let f = c.in_ok-found.ensures in
    let found = c.in_ok-found.found in
    let page = found.page in
    let payload = c.args.payload.now in
    let order = c.args.order.now in
    let one : sizes_of S s ≡ z = sizes-same S a s f.owes.stays in
    let is_found = f.found m told in
    let decoded : IsDecoded (m number) number z.usable page = is_found.decoded in
    let there = read-there number z.usable page m decoded in
    let own = decoded-own number z.usable page f.read in
    let x = paged S a m in
    let kind = c.in-IndexInterior.is in
    let at = c.in-At.at in
    let named = child_or page.right (slice_get page.views at) in
    let p = err_from_is_err_and c.from_residual-in_err-child-in-At.result c.from_residual-in_err-child-in-At.ensures.1 in
    rw (p.1, p.2)
    (λ levels tree trunks low is holds free ready. absurd (c.in_err-child-in-At.ensures.out
    (subst⁻¹ (λ (q : ℕ). IsInRange q (S.count s) named) f.owes.stays.size (subst⁻¹ (λ (q : ℕ). IsInRange (S.size a) q named) f.count (inner-named z number page x decoded kind levels tree is ready.stands at)))))

pub returns-in_err-below-in-At-clause-refuses : goal.returns-in_err-below-in-At-clause-refuses
returns-in_err-below-in-At-clause-refuses g c = λ m told.
    let S = g.S.PageRead in
    let a = c.args.store.now in
    let s = c.find.new.store in
    let number = c.args.root in
    let z = sizes_of S a in
    let f = c.in_ok-found.ensures in
    let found = c.in_ok-found.found in
    let page = found.page in
    let payload = c.args.payload.now in
    let order = c.args.order.now in
    let one : sizes_of S s ≡ z = sizes-same S a s f.owes.stays in
    let is_found = f.found m told in
    let decoded : IsDecoded (m number) number z.usable page = is_found.decoded in
    let there = read-there number z.usable page m decoded in
    let own = decoded-own number z.usable page f.read in
    let x = paged S a m in
    let kind = c.in-IndexInterior.is in
    let at = c.in-At.at in
    let named = child_or page.right (slice_get page.views at) in
    let fault = c.in_err-below-in-At.field-0.0 in
    let count = S.count c.delete_below.new.store in
    let p = err_from_is_err_and c.from_residual-in_err-below-in-At.result c.from_residual-in_err-below-in-At.ensures.1 in
    rw (p.1, p.2)
    (short-child z number page x decoded kind (IsFullRootIndex order) at c.args.limit count fault (IsFullIndex order) 23 24 2 3 refl (omega arith)
    (λ below tree holds. (full-child below at tree.children tree.last holds.0.below.0 holds.0.below.1, entries-child order below at tree.children tree.last holds.1))
    (where-same (sizes_of S s) z (IsFullIndex order) 23 2 c.args.limit c.in_ok-child-in-At.child named (S.count s) (S.count a) count m fault one c.in_ok-child-in-At.ensures.named f.count
    (c.in_err-below-in-At.ensures.refuses m (f.same ∙ told))))

pub returns-in-None-clause-deleted : goal.returns-in-None-clause-deleted
returns-in-None-clause-deleted g c = λ old told.
    let S = g.S.PageRead in
    let a = c.args.store.now in
    let s = c.find.new.store in
    let number = c.args.root in
    let z = sizes_of S a in
    let f = c.in_ok-found.ensures in
    let found = c.in_ok-found.found in
    let page = found.page in
    let payload = c.args.payload.now in
    let order = c.args.order.now in
    let one : sizes_of S s ≡ z = sizes-same S a s f.owes.stays in
    let is_found = f.found old told in
    let decoded : IsDecoded (old number) number z.usable page = is_found.decoded in
    let there = read-there number z.usable page old decoded in
    let own = decoded-own number z.usable page f.read in
    let x = paged S a old in
    let kind = c.in-IndexInterior.is in
    let gr = c.in_ok-below-in-At.ensures in
    let child = c.in_ok-child-in-At.child in
    let n = gr.deleted old (f.same ∙ told) in
    let y = paged S c.delete_below.new.store n.0 in
    let got = deletes-same (sizes_of S s) z order payload child (S.count s) (S.count a) c.in_ok-below-in-At.below old y one f.count n.2 in
    let none : DeletesUnder z order payload child None x y = subst (λ (o : Option Removed). DeletesUnder z order payload child o x y) c.in-None.is got in
    let sought = subst (IsSought old z.size z.usable x.count page order payload) c.in-At.is is_found.sought in
    let misses = inner-misses z order payload c.requires.entry page x there own kind c.in-At.at sought child c.in_ok-child-in-At.ensures.named none.1 in
    (n.0, n.1, (none.0, subst (λ (p : ℕ). IsMissing z order payload p x) decoded.number_is misses))

pub returns-in-None-clause-rises : goal.returns-in-None-clause-rises
returns-in-None-clause-rises g c =
    let S = g.S.PageRead in
    let f = c.in_ok-found.ensures in
    let a = c.args.store.now in
    let b = c.delete_below.new.store in
    let rises = rises-read S (removed_most 23 c.in_ok-below-in-At.below) a c.find.new.store b f.owes.stays.size f.count c.in_ok-below-in-At.ensures.rises in
    let none = subst (λ (o : Option Removed). RisesBy S (removed_most 23 o) a b) c.in-None.is rises in
    omega (arith, none)

pub returns-in_ok-pass_to_root-in-Some-clause-deleted : goal.returns-in_ok-pass_to_root-in-Some-clause-deleted
returns-in_ok-pass_to_root-in-Some-clause-deleted g c = λ old told.
    let S = g.S.PageRead in
    let a = c.args.store.now in
    let s = c.find.new.store in
    let number = c.args.root in
    let z = sizes_of S a in
    let f = c.in_ok-found.ensures in
    let found = c.in_ok-found.found in
    let page = found.page in
    let payload = c.args.payload.now in
    let order = c.args.order.now in
    let one : sizes_of S s ≡ z = sizes-same S a s f.owes.stays in
    let is_found = f.found old told in
    let decoded : IsDecoded (old number) number z.usable page = is_found.decoded in
    let there = read-there number z.usable page old decoded in
    let own = decoded-own number z.usable page f.read in
    let x = paged S a old in
    let b = c.delete_below.new.store in
    let v = c.pass_to_root.new.store in
    let at = c.in-At.at in
    let gr = c.in_ok-below-in-At.ensures in
    let child = c.in_ok-child-in-At.child in
    let child_is = c.in_ok-child-in-At.ensures.named in
    let named = child_or page.right (slice_get page.views at) in
    let below = c.in-Some.removed in
    let two : sizes_of S b ≡ z = sizes-same S s b gr.owes.stays ∙ one in
    let n = gr.deleted old (f.same ∙ told) in
    let y = paged S b n.0 in
    let got = deletes-same (sizes_of S s) z order payload child (S.count s) (S.count a) c.in_ok-below-in-At.below old y one f.count n.2 in
    let some : DeletesUnder z order payload child (Some below) x y = subst (λ (o : Option Removed). DeletesUnder z order payload child o x y) c.in-Some.is got in
    let k = c.in_ok-pass_to_root-in-Some.ensures.passes n.0 n.1 in
    let w = paged S v k.0 in
    let passes : PassesRoot z page child below.left y w = subst (λ (m : Sizes). PassesRoot m page child below.left y w) two k.2 in
    (k.0, k.1, (subst (λ (p : ℕ). DeleteInto z (cell_of below.row) p x w) decoded.number_is (passes below.row x there some.0), some.1))

pub returns-in_ok-pass_to_root-in-Some-clause-rises : goal.returns-in_ok-pass_to_root-in-Some-clause-rises
returns-in_ok-pass_to_root-in-Some-clause-rises g c =
    let S = g.S.PageRead in
    let a = c.args.store.now in
    let b = c.delete_below.new.store in
    let f = c.in_ok-found.ensures in
    let gr = c.in_ok-below-in-At.ensures in
    let left = c.in-Some.removed.left in
    let below = subst (λ (o : Option Removed). RisesBy S (removed_most 23 o) a b) c.in-Some.is (rises-read S (removed_most 23 c.in_ok-below-in-At.below) a c.find.new.store b f.owes.stays.size f.count gr.rises) in
    let both = rises-then S a b c.pass_to_root.new.store (below_most 23 left) (root_most left) (gr.owes.stays.size ∙ f.owes.stays.size) below c.in_ok-pass_to_root-in-Some.ensures.rises in
    omega (arith, both, root-enough left 23)

pub returns-in_err-pass_to_root-in-Some-clause-refuses : goal.returns-in_err-pass_to_root-in-Some-clause-refuses
returns-in_err-pass_to_root-in-Some-clause-refuses g c = λ m told.
    let S = g.S.PageRead in
    let a = c.args.store.now in
    let s = c.find.new.store in
    let number = c.args.root in
    let z = sizes_of S a in
    let f = c.in_ok-found.ensures in
    let found = c.in_ok-found.found in
    let page = found.page in
    let payload = c.args.payload.now in
    let order = c.args.order.now in
    let one : sizes_of S s ≡ z = sizes-same S a s f.owes.stays in
    let is_found = f.found m told in
    let decoded : IsDecoded (m number) number z.usable page = is_found.decoded in
    let there = read-there number z.usable page m decoded in
    let own = decoded-own number z.usable page f.read in
    let x = paged S a m in
    let kind = c.in-IndexInterior.is in
    let b = c.delete_below.new.store in
    let v = c.pass_to_root.new.store in
    let at = c.in-At.at in
    let gr = c.in_ok-below-in-At.ensures in
    let child = c.in_ok-child-in-At.child in
    let child_is = c.in_ok-child-in-At.ensures.named in
    let named = child_or page.right (slice_get page.views at) in
    let below = c.in-Some.removed in
    let two : sizes_of S b ≡ z = sizes-same S s b gr.owes.stays ∙ one in
    let n = gr.deleted m (f.same ∙ told) in
    let y = paged S b n.0 in
    let got = deletes-same (sizes_of S s) z order payload child (S.count s) (S.count a) c.in_ok-below-in-At.below m y one f.count n.2 in
    let some : DeletesUnder z order payload child (Some below) x y = subst (λ (o : Option Removed). DeletesUnder z order payload child o x y) c.in-Some.is got in
    let fit : IsFit z.usable below.left = subst (λ (u : ℕ). IsFit u below.left) f.owes.stays.usable (subst (λ (o : Option Removed). IfSome o (λ it. IsFit (S.usable s) it.left)) c.in-Some.is gr.fit) in
    let used : UsesUnder z child (Some below) x y =
    subst (λ (o : Option Removed). UsesUnder z child o x y) c.in-Some.is (whenever-read S (λ q. UsesUnder q child c.in_ok-below-in-At.below) a s b one f.same f.count gr.uses m told n.0 n.1) in
    let uses : UsesBelow z named below.left x y = subst (λ (p : ℕ). UsesBelow z p below.left x y) child_is used in
    let few : at ≤ length page.views = subst (IsWithin page) c.in-At.is f.within in
    let near = inner-beside z number page x decoded kind y at child few child_is false below.row below.left fit some.0 in
    let fault = c.in_err-pass_to_root-in-Some.field-0.0 in
    let count = S.count v in
    let limit = c.args.limit in
    let p = err_from_is_err_and c.from_residual-in_err-pass_to_root-in-Some.result c.from_residual-in_err-pass_to_root-in-Some.ensures.1 in
    rw (p.1, p.2)
    (short-passed z number page x decoded kind (IsFullRootIndex order) at limit count fault 24 3 (root_most below.left) y below.left (root-enough below.left) uses (omega (arith, gr.count, f.count)) (omega (arith, gr.most, f.count))
    (λ levels tree trunks is free ready.
    let beside = near levels tree trunks is free ready in (
      beside.0,
      beside.1.free,
      subst (λ (q : Sizes). IsShort q (root_most below.left) limit y beside.0 count fault) two
          (c.in_err-pass_to_root-in-Some.ensures.refuses below.row x levels tree trunks there (is ∙ sym decoded.number_is) (subst⁻¹ (λ (q : Sizes). IsFree q x trunks) two free) (subst⁻¹ (λ (q : Sizes). IsReady q levels x tree trunks) two ready) n.0 beside.0 n.1
          (subst⁻¹ (λ (q : Sizes). Leaves q false below.row child below.left x y) two some.0) (subst⁻¹ (λ (q : Sizes). HasBeside q page at child below.left y beside.0) two beside.1)),
    )))
