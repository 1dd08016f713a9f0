use Rattle.std.proofs.Common.{◌≡◌, ℕ, ◌-◌, ap, ◌∙◌, subst, arith, length, inl, inr, false, slice_get, Option, Some, IfSome, ◌≤◌, None}
use Rattle.std.proofs.Math.Path.{subst⁻¹}
use Rattle.std.proofs.lemmas.Result.{err_from_is_err_and, IfErr-weaker, IfOk-weaker}
use Rattle.tree_pages.specs.Writers.{paged, sizes_of}
use Rattle.tree_pages.specs.WritersLaws.{sizes-same}
use Rattle.tree_spec.specs.Standing.{Sizes}
use Rattle.tree_walk.specs.Pages.{IsDecoded}
use Rattle.tree_pages.specs.Takes.{IsShort, UsesBy, RisesBy}
use Rattle.tree_walk.specs.Places.{child_or}
use Rattle.index_delete.specs.Deletes.{IsFit, Leaves, passed_most, below_most, Passes}
use Rattle.index_delete.specs.Needs.{HasBeside, UsesBelow, short_most}
use Rattle.index_delete.specs.UsesLaws.{whenever-read}
use Rattle.index_delete.specs.NeighboursLaws.{inner-beside, inner-deep, inner-named, uses-passed, short-child, short-passed, where-same, full-child, short-enough, level-within, views-own}
use Rattle.tree_spec.specs.Trees.{IsFull}
use Rattle.tree_index.specs.ReadsLaws.{read-there, entries-child}
use Rattle.index_removal.proofs.Entries.{inner-misses, cell-equal}
use Rattle.index_removal.proofs.Transports.{leaves-same, if-ok_also, deletes-same, if-ok_each, found-back, none-used}
use Rattle.index_removal.specs.Deletes.{DeletesUnder, IsMissing}
use Rattle.index_removal.specs.Needs.{UsesUnder, removed_most, IsFullIndex}
use Rattle.index_delete.specs.declared.closing.Removed.{Removed}
use Rattle.tree_index.specs.Searches.{IsSought, IsWithin}
use Rattle.page_spec.specs.Pages.{IsInRange}
use Rattle.tree_pages.specs.TakesLaws.{rises-read, rises-then}
use Rattle.page_spec.specs.FreePages.{due_pages}
use Rattle.tree_index.specs.PlacesLaws.{decoded-own}
use Rattle.index_removal.proofs.removing.+delete_below.Goals as goal

pub returns-in_err-found-clause-refuses : goal.returns-in_err-found-clause-refuses
returns-in_err-found-clause-refuses g t c = λ m told.
    let p = err_from_is_err_and c.from_residual.result c.from_residual.ensures.1 in
    rw (p.1, p.2) (λ levels tree trunks low is holds free ready. inl (c.in_err-found.ensures.refuses m told levels tree is ready.stands holds.1))

pub returns-in-IndexLeaf-clause-deleted : goal.returns-in-IndexLeaf-clause-deleted
returns-in-IndexLeaf-clause-deleted g t c =
    let S = g.S.PageRead in
    let a = c.args.store.now in
    let s = c.find.new.store in
    let number = c.args.number in
    let z = sizes_of S a in
    let f = c.in_ok-found.ensures in
    let found = c.in_ok-found.found in
    let page = found.page in
    let payload = c.args.payload.now in
    let order = c.args.order.now in
    let one : sizes_of S s ≡ z = sizes-same S a s f.owes.stays in
    IfOk-weaker c.delete_in_leaf.result _ _ (λ removed made. λ old told.
    let is_found = f.found old told in
    let n = made old (f.same ∙ told) in
    let y = paged S c.delete_in_leaf.new.store n.0 in
    let same = is_found.decoded.number_is in
    let got = n.2 order payload c.requires.entry (found-back (sizes_of S s) z order payload page.number number (S.count s) (S.count a) found old one same f.count is_found) in
    (n.0, n.1, subst (λ (p : ℕ). DeletesUnder z order payload p removed (paged S a old) y) same (deletes-same (sizes_of S s) z order payload page.number (S.count s) (S.count a) removed old y one f.count got))) c.delete_in_leaf.ensures.deleted

pub returns-in-IndexLeaf-clause-rises : goal.returns-in-IndexLeaf-clause-rises
returns-in-IndexLeaf-clause-rises g t c =
    if-ok_each c.delete_in_leaf.result (λ removed. omega (arith, ap (due_pages (g.S.PageRead.size c.args.store.now)) (c.delete_in_leaf.ensures.count ∙ c.in_ok-found.ensures.count)))

pub returns-in-IndexLeaf-clause-uses : goal.returns-in-IndexLeaf-clause-uses
returns-in-IndexLeaf-clause-uses g t c =
    let S = g.S.PageRead in
    let a = c.args.store.now in
    let s = c.find.new.store in
    let number = c.args.number in
    let z = sizes_of S a in
    let f = c.in_ok-found.ensures in
    let found = c.in_ok-found.found in
    let page = found.page in
    let payload = c.args.payload.now in
    let order = c.args.order.now in
    let one : sizes_of S s ≡ z = sizes-same S a s f.owes.stays in
    let v = c.delete_in_leaf.new.store in
    if-ok_also c.delete_in_leaf.result (λ removed uses. λ old told new later.
    none-used z number removed (paged S a old) (paged S v new) (whenever-read S (λ q. UsesBy q 0) a s v one f.same f.count uses old told new later)) c.delete_in_leaf.ensures.uses

pub returns-in-IndexLeaf-clause-refuses : goal.returns-in-IndexLeaf-clause-refuses
returns-in-IndexLeaf-clause-refuses g t c = λ m told. IfErr-weaker c.delete_in_leaf.result _ _ (λ fault other. λ levels tree trunks low is holds free ready. inl other) c.delete_in_leaf.ensures.other

pub returns-in_ok-removed-in-Present-clause-deleted : goal.returns-in_ok-removed-in-Present-clause-deleted
returns-in_ok-removed-in-Present-clause-deleted g t c = λ old told.
    let S = g.S.PageRead in
    let a = c.args.store.now in
    let s = c.find.new.store in
    let number = c.args.number in
    let z = sizes_of S a in
    let f = c.in_ok-found.ensures in
    let found = c.in_ok-found.found in
    let page = found.page in
    let payload = c.args.payload.now in
    let order = c.args.order.now in
    let one : sizes_of S s ≡ z = sizes-same S a s f.owes.stays in
    let is_found = f.found old told in
    let decoded : IsDecoded (old number) number z.usable page = is_found.decoded in
    let there = read-there number z.usable page old decoded in
    let own = decoded-own number z.usable page f.read in
    let x = paged S a old in
    let removed = c.in_ok-removed-in-Present.removed in
    let r = c.in_ok-removed-in-Present.ensures in
    let n = r.left old (f.same ∙ told) in
    let y = paged S c.replace_below.new.store n.0 in
    let sought = subst (IsSought old z.size z.usable x.count page order payload) c.in-Present.is is_found.sought in
    let leaves = leaves-same (sizes_of S s) z false removed.row page.number removed.left (S.count s) (S.count a) old y one f.count (n.2 there) in (
      n.0,
      n.1,
      (
        subst (λ (p : ℕ). Leaves z false removed.row p removed.left x y) decoded.number_is leaves,
        cell-equal z order payload c.requires.entry page x there own c.in-Present.at sought removed.row r.row,
      ),
    )

pub returns-in_ok-removed-in-Present-clause-rises : goal.returns-in_ok-removed-in-Present-clause-rises
returns-in_ok-removed-in-Present-clause-rises g t c =
    let f = c.in_ok-found.ensures in
    rises-read g.S.PageRead (below_most c.args.levels c.in_ok-removed-in-Present.removed.left) c.args.store.now c.find.new.store c.replace_below.new.store f.owes.stays.size f.count c.in_ok-removed-in-Present.ensures.rises

pub returns-in_ok-removed-in-Present-clause-uses : goal.returns-in_ok-removed-in-Present-clause-uses
returns-in_ok-removed-in-Present-clause-uses g t c = λ old told new later.
    let S = g.S.PageRead in
    let a = c.args.store.now in
    let s = c.find.new.store in
    let number = c.args.number in
    let z = sizes_of S a in
    let f = c.in_ok-found.ensures in
    let found = c.in_ok-found.found in
    let page = found.page in
    let payload = c.args.payload.now in
    let order = c.args.order.now in
    let one : sizes_of S s ≡ z = sizes-same S a s f.owes.stays in
    let is_found = f.found old told in
    let decoded : IsDecoded (old number) number z.usable page = is_found.decoded in
    let there = read-there number z.usable page old decoded in
    let own = decoded-own number z.usable page f.read in
    let x = paged S a old in
    let left = c.in_ok-removed-in-Present.removed.left in
    let v = c.replace_below.new.store in
    let uses = whenever-read S (λ q p n. p.pages page.number ≡ page.bytes → UsesBelow q page.number left p n) a s v one f.same f.count c.in_ok-removed-in-Present.ensures.uses old told new later there in
    subst (λ (p : ℕ). UsesBelow z p left x (paged S v new)) decoded.number_is uses

pub returns-in_err-removed-in-Present-clause-refuses : goal.returns-in_err-removed-in-Present-clause-refuses
returns-in_err-removed-in-Present-clause-refuses g t c = λ m told.
    let S = g.S.PageRead in
    let a = c.args.store.now in
    let s = c.find.new.store in
    let number = c.args.number in
    let z = sizes_of S a in
    let f = c.in_ok-found.ensures in
    let found = c.in_ok-found.found in
    let page = found.page in
    let payload = c.args.payload.now in
    let order = c.args.order.now in
    let one : sizes_of S s ≡ z = sizes-same S a s f.owes.stays in
    let is_found = f.found m told in
    let decoded : IsDecoded (m number) number z.usable page = is_found.decoded in
    let there = read-there number z.usable page m decoded in
    let own = decoded-own number z.usable page f.read in
    let x = paged S a m in
    let fault = c.in_err-removed-in-Present.field-0.0 in
    let count = S.count c.replace_below.new.store in
    let short = where-same (sizes_of S s) z IsFull c.args.levels 2 c.args.limit page.number number (S.count s) (S.count a) count m fault one decoded.number_is f.count (c.in_err-removed-in-Present.ensures.refuses m (f.same ∙ told) there) in
    let p = err_from_is_err_and c.from_residual-in_err-removed-in-Present.result c.from_residual-in_err-removed-in-Present.ensures.1 in
    rw (p.1, p.2) (λ levels tree trunks low is holds free ready. short levels tree trunks low is holds.0 free ready)

pub returns-in_err-check_inner-in-At-clause-refuses : goal.returns-in_err-check_inner-in-At-clause-refuses
returns-in_err-check_inner-in-At-clause-refuses g t c = λ m told.
    let S = g.S.PageRead in
    let a = c.args.store.now in
    let s = c.find.new.store in
    let number = c.args.number in
    let z = sizes_of S a in
    let f = c.in_ok-found.ensures in
    let found = c.in_ok-found.found in
    let page = found.page in
    let payload = c.args.payload.now in
    let order = c.args.order.now in
    let one : sizes_of S s ≡ z = sizes-same S a s f.owes.stays in
    let is_found = f.found m told in
    let decoded : IsDecoded (m number) number z.usable page = is_found.decoded in
    let there = read-there number z.usable page m decoded in
    let own = decoded-own number z.usable page f.read in
    let x = paged S a m in
    let kind = c.in-IndexInterior.is in
    let p = err_from_is_err_and c.from_residual-in_err-check_inner-in-At.result c.from_residual-in_err-check_inner-in-At.ensures.1 in
    rw (p.1, p.2)
    (λ levels tree trunks low is holds free ready. absurd (elim c.in_err-check_inner-in-At.ensures.refused [
      | inl deep ↦ omega (arith, low, deep, inner-deep z number page x decoded kind levels tree is ready.stands)
      | inr none ↦ omega (arith, none, views-own z x number page decoded levels tree is ready.stands, holds.0.0)
    ]))

pub returns-in_err-child-in-At-clause-refuses : goal.returns-in_err-child-in-At-clause-refuses
returns-in_err-child-in-At-clause-refuses g t c = λ m told.
    let S = g.S.PageRead in
    let a = c.args.store.now in
    let s = c.find.new.store in
    let number = c.args.number in
    let z = sizes_of S a in
    let f = c.in_ok-found.ensures in
    let found = c.in_ok-found.found in
    let page = found.page in
    let payload = c.args.payload.now in
    let order = c.args.order.now in
    let one : sizes_of S s ≡ z = sizes-same S a s f.owes.stays in
    let is_found = f.found m told in
    let decoded : IsDecoded (m number) number z.usable page = is_found.decoded in
    let there = read-there number z.usable page m decoded in
    let own = decoded-own number z.usable page f.read in
    let x = paged S a m in
    let kind = c.in-IndexInterior.is in
    let at = c.in-At.at in
    let named = child_or page.right (slice_get page.views at) in
    let p = err_from_is_err_and c.from_residual-in_err-child-in-At.result c.from_residual-in_err-child-in-At.ensures.1 in
    rw (p.1, p.2)
    (λ levels tree trunks low is holds free ready. absurd (c.in_err-child-in-At.ensures.out
    (subst⁻¹ (λ (q : ℕ). IsInRange q (S.count s) named) f.owes.stays.size (subst⁻¹ (λ (q : ℕ). IsInRange (S.size a) q named) f.count (inner-named z number page x decoded kind levels tree is ready.stands at)))))

pub returns-in_err-below-in-At-clause-refuses : goal.returns-in_err-below-in-At-clause-refuses
returns-in_err-below-in-At-clause-refuses g t c = λ m told.
    let S = g.S.PageRead in
    let a = c.args.store.now in
    let s = c.find.new.store in
    let number = c.args.number in
    let z = sizes_of S a in
    let f = c.in_ok-found.ensures in
    let found = c.in_ok-found.found in
    let page = found.page in
    let payload = c.args.payload.now in
    let order = c.args.order.now in
    let one : sizes_of S s ≡ z = sizes-same S a s f.owes.stays in
    let is_found = f.found m told in
    let decoded : IsDecoded (m number) number z.usable page = is_found.decoded in
    let there = read-there number z.usable page m decoded in
    let own = decoded-own number z.usable page f.read in
    let x = paged S a m in
    let kind = c.in-IndexInterior.is in
    let at = c.in-At.at in
    let named = child_or page.right (slice_get page.views at) in
    let fault = c.in_err-below-in-At.field-0.0 in
    let count = S.count c.delete_below.new.store in
    let most = c.args.levels - 1 in
    let p = err_from_is_err_and c.from_residual-in_err-below-in-At.result c.from_residual-in_err-below-in-At.ensures.1 in
    rw (p.1, p.2)
    (short-child z number page x decoded kind (IsFullIndex order) at c.args.limit count fault (IsFullIndex order) most c.args.levels 2 2 (omega (arith, c.in_ok-check_inner-in-At.ensures.deep)) (omega arith)
    (λ below tree holds. (full-child below at tree.children tree.last holds.0.1.0 holds.0.1.1, entries-child order below at tree.children tree.last holds.1))
    (where-same (sizes_of S s) z (IsFullIndex order) most 2 c.args.limit c.in_ok-child-in-At.child named (S.count s) (S.count a) count m fault one c.in_ok-child-in-At.ensures.named f.count
    (c.in_err-below-in-At.ensures.refuses m (f.same ∙ told))))

pub returns-in-None-clause-deleted : goal.returns-in-None-clause-deleted
returns-in-None-clause-deleted g t c = λ old told.
    let S = g.S.PageRead in
    let a = c.args.store.now in
    let s = c.find.new.store in
    let number = c.args.number in
    let z = sizes_of S a in
    let f = c.in_ok-found.ensures in
    let found = c.in_ok-found.found in
    let page = found.page in
    let payload = c.args.payload.now in
    let order = c.args.order.now in
    let one : sizes_of S s ≡ z = sizes-same S a s f.owes.stays in
    let is_found = f.found old told in
    let decoded : IsDecoded (old number) number z.usable page = is_found.decoded in
    let there = read-there number z.usable page old decoded in
    let own = decoded-own number z.usable page f.read in
    let x = paged S a old in
    let kind = c.in-IndexInterior.is in
    let gr = c.in_ok-below-in-At.ensures in
    let child = c.in_ok-child-in-At.child in
    let n = gr.deleted old (f.same ∙ told) in
    let y = paged S c.delete_below.new.store n.0 in
    let got = deletes-same (sizes_of S s) z order payload child (S.count s) (S.count a) c.in_ok-below-in-At.below old y one f.count n.2 in
    let none : DeletesUnder z order payload child None x y = subst (λ (o : Option Removed). DeletesUnder z order payload child o x y) c.in-None.is got in
    let sought = subst (IsSought old z.size z.usable x.count page order payload) c.in-At.is is_found.sought in
    let misses = inner-misses z order payload c.requires.entry page x there own kind c.in-At.at sought child c.in_ok-child-in-At.ensures.named none.1 in
    (n.0, n.1, (none.0, subst (λ (p : ℕ). IsMissing z order payload p x) decoded.number_is misses))

pub returns-in-None-clause-rises : goal.returns-in-None-clause-rises
returns-in-None-clause-rises g t c =
    let S = g.S.PageRead in
    let f = c.in_ok-found.ensures in
    let a = c.args.store.now in
    let b = c.delete_below.new.store in
    let rises = rises-read S (removed_most (c.args.levels - 1) c.in_ok-below-in-At.below) a c.find.new.store b f.owes.stays.size f.count c.in_ok-below-in-At.ensures.rises in
    subst (λ (o : Option Removed). RisesBy S (removed_most (c.args.levels - 1) o) a b) c.in-None.is rises

pub returns-in-None-clause-uses : goal.returns-in-None-clause-uses
returns-in-None-clause-uses g t c = λ old told new later.
    let S = g.S.PageRead in
    let a = c.args.store.now in
    let s = c.find.new.store in
    let number = c.args.number in
    let z = sizes_of S a in
    let f = c.in_ok-found.ensures in
    let found = c.in_ok-found.found in
    let page = found.page in
    let payload = c.args.payload.now in
    let order = c.args.order.now in
    let one : sizes_of S s ≡ z = sizes-same S a s f.owes.stays in
    let b = c.delete_below.new.store in
    let child = c.in_ok-child-in-At.child in
    let below = c.in_ok-below-in-At.below in
    let uses = whenever-read S (λ q. UsesUnder q child below) a s b one f.same f.count c.in_ok-below-in-At.ensures.uses old told new later in
    subst (λ (o : Option Removed). UsesUnder z child o (paged S a old) (paged S b new)) c.in-None.is uses

pub returns-in_ok-left-in-Some-clause-deleted : goal.returns-in_ok-left-in-Some-clause-deleted
returns-in_ok-left-in-Some-clause-deleted g t c = λ old told.
    let S = g.S.PageRead in
    let a = c.args.store.now in
    let s = c.find.new.store in
    let number = c.args.number in
    let z = sizes_of S a in
    let f = c.in_ok-found.ensures in
    let found = c.in_ok-found.found in
    let page = found.page in
    let payload = c.args.payload.now in
    let order = c.args.order.now in
    let one : sizes_of S s ≡ z = sizes-same S a s f.owes.stays in
    let is_found = f.found old told in
    let decoded : IsDecoded (old number) number z.usable page = is_found.decoded in
    let there = read-there number z.usable page old decoded in
    let own = decoded-own number z.usable page f.read in
    let x = paged S a old in
    let b = c.delete_below.new.store in
    let v = c.pass_on.new.store in
    let at = c.in-At.at in
    let gr = c.in_ok-below-in-At.ensures in
    let child = c.in_ok-child-in-At.child in
    let child_is = c.in_ok-child-in-At.ensures.named in
    let named = child_or page.right (slice_get page.views at) in
    let below = c.in-Some.removed in
    let two : sizes_of S b ≡ z = sizes-same S s b gr.owes.stays ∙ one in
    let n = gr.deleted old (f.same ∙ told) in
    let y = paged S b n.0 in
    let got = deletes-same (sizes_of S s) z order payload child (S.count s) (S.count a) c.in_ok-below-in-At.below old y one f.count n.2 in
    let some : DeletesUnder z order payload child (Some below) x y = subst (λ (o : Option Removed). DeletesUnder z order payload child o x y) c.in-Some.is got in
    let left = c.in_ok-left-in-Some.left in
    let k = c.in_ok-left-in-Some.ensures.left n.0 n.1 in
    let w = paged S v k.0 in
    let passes : Passes z page at child below.left left y w = subst (λ (m : Sizes). Passes m page at child below.left left y w) two k.2 in
    let leaves = passes false below.row x there (λ e. absurd (let h : ⊥ = cc in h)) some.0 in
    (k.0, k.1, (subst (λ (p : ℕ). Leaves z false below.row p left x w) decoded.number_is leaves, some.1))

pub returns-in_ok-left-in-Some-clause-rises : goal.returns-in_ok-left-in-Some-clause-rises
returns-in_ok-left-in-Some-clause-rises g t c =
    let S = g.S.PageRead in
    let a = c.args.store.now in
    let b = c.delete_below.new.store in
    let f = c.in_ok-found.ensures in
    let gr = c.in_ok-below-in-At.ensures in
    let ps = c.in_ok-left-in-Some.ensures in
    let left = c.in_ok-left-in-Some.left in
    let under = c.in-Some.removed.left in
    let most = c.args.levels - 1 in
    let below = subst (λ (o : Option Removed). RisesBy S (removed_most most o) a b) c.in-Some.is (rises-read S (removed_most most c.in_ok-below-in-At.below) a c.find.new.store b f.owes.stays.size f.count gr.rises) in
    let both = rises-then S a b c.pass_on.new.store (below_most most under) (passed_most under left) (gr.owes.stays.size ∙ f.owes.stays.size) below ps.rises in
    omega (arith, both, level-within c.args.levels under left c.in_ok-check_inner-in-At.ensures.deep ps.filled)

pub returns-in_ok-left-in-Some-clause-uses : goal.returns-in_ok-left-in-Some-clause-uses
returns-in_ok-left-in-Some-clause-uses g t c = λ old told new later.
    let S = g.S.PageRead in
    let a = c.args.store.now in
    let s = c.find.new.store in
    let number = c.args.number in
    let z = sizes_of S a in
    let f = c.in_ok-found.ensures in
    let found = c.in_ok-found.found in
    let page = found.page in
    let payload = c.args.payload.now in
    let order = c.args.order.now in
    let one : sizes_of S s ≡ z = sizes-same S a s f.owes.stays in
    let is_found = f.found old told in
    let decoded : IsDecoded (old number) number z.usable page = is_found.decoded in
    let there = read-there number z.usable page old decoded in
    let own = decoded-own number z.usable page f.read in
    let x = paged S a old in
    let kind = c.in-IndexInterior.is in
    let b = c.delete_below.new.store in
    let v = c.pass_on.new.store in
    let at = c.in-At.at in
    let gr = c.in_ok-below-in-At.ensures in
    let child = c.in_ok-child-in-At.child in
    let child_is = c.in_ok-child-in-At.ensures.named in
    let named = child_or page.right (slice_get page.views at) in
    let below = c.in-Some.removed in
    let two : sizes_of S b ≡ z = sizes-same S s b gr.owes.stays ∙ one in
    let n = gr.deleted old (f.same ∙ told) in
    let y = paged S b n.0 in
    let got = deletes-same (sizes_of S s) z order payload child (S.count s) (S.count a) c.in_ok-below-in-At.below old y one f.count n.2 in
    let some : DeletesUnder z order payload child (Some below) x y = subst (λ (o : Option Removed). DeletesUnder z order payload child o x y) c.in-Some.is got in
    let fit : IsFit z.usable below.left = subst (λ (u : ℕ). IsFit u below.left) f.owes.stays.usable (subst (λ (o : Option Removed). IfSome o (λ it. IsFit (S.usable s) it.left)) c.in-Some.is gr.fit) in
    let used : UsesUnder z child (Some below) x y =
    subst (λ (o : Option Removed). UsesUnder z child o x y) c.in-Some.is (whenever-read S (λ q. UsesUnder q child c.in_ok-below-in-At.below) a s b one f.same f.count gr.uses old told n.0 n.1) in
    let uses : UsesBelow z named below.left x y = subst (λ (p : ℕ). UsesBelow z p below.left x y) child_is used in
    let few : at ≤ length page.views = subst (IsWithin page) c.in-At.is f.within in
    let near = inner-beside z number page x decoded kind y at child few child_is false below.row below.left fit some.0 in
    let left = c.in_ok-left-in-Some.left in
    let ps = c.in_ok-left-in-Some.ensures in
    let w = paged S v new in
    uses-passed z number page x decoded kind y w at below.left left ps.filled uses
    (λ levels tree trunks is free ready.
    let beside = near levels tree trunks is free ready in
    subst (λ (q : Sizes). UsesBy q (passed_most below.left left) y w) two (ps.uses n.0 n.1 new later beside.0 (subst⁻¹ (λ (q : Sizes). HasBeside q page at child below.left y beside.0) two beside.1)))

pub returns-in_err-left-in-Some-clause-refuses : goal.returns-in_err-left-in-Some-clause-refuses
returns-in_err-left-in-Some-clause-refuses g t c = λ m told.
    let S = g.S.PageRead in
    let a = c.args.store.now in
    let s = c.find.new.store in
    let number = c.args.number in
    let z = sizes_of S a in
    let f = c.in_ok-found.ensures in
    let found = c.in_ok-found.found in
    let page = found.page in
    let payload = c.args.payload.now in
    let order = c.args.order.now in
    let one : sizes_of S s ≡ z = sizes-same S a s f.owes.stays in
    let is_found = f.found m told in
    let decoded : IsDecoded (m number) number z.usable page = is_found.decoded in
    let there = read-there number z.usable page m decoded in
    let own = decoded-own number z.usable page f.read in
    let x = paged S a m in
    let kind = c.in-IndexInterior.is in
    let b = c.delete_below.new.store in
    let v = c.pass_on.new.store in
    let at = c.in-At.at in
    let gr = c.in_ok-below-in-At.ensures in
    let child = c.in_ok-child-in-At.child in
    let child_is = c.in_ok-child-in-At.ensures.named in
    let named = child_or page.right (slice_get page.views at) in
    let below = c.in-Some.removed in
    let two : sizes_of S b ≡ z = sizes-same S s b gr.owes.stays ∙ one in
    let n = gr.deleted m (f.same ∙ told) in
    let y = paged S b n.0 in
    let got = deletes-same (sizes_of S s) z order payload child (S.count s) (S.count a) c.in_ok-below-in-At.below m y one f.count n.2 in
    let some : DeletesUnder z order payload child (Some below) x y = subst (λ (o : Option Removed). DeletesUnder z order payload child o x y) c.in-Some.is got in
    let fit : IsFit z.usable below.left = subst (λ (u : ℕ). IsFit u below.left) f.owes.stays.usable (subst (λ (o : Option Removed). IfSome o (λ it. IsFit (S.usable s) it.left)) c.in-Some.is gr.fit) in
    let used : UsesUnder z child (Some below) x y =
    subst (λ (o : Option Removed). UsesUnder z child o x y) c.in-Some.is (whenever-read S (λ q. UsesUnder q child c.in_ok-below-in-At.below) a s b one f.same f.count gr.uses m told n.0 n.1) in
    let uses : UsesBelow z named below.left x y = subst (λ (p : ℕ). UsesBelow z p below.left x y) child_is used in
    let few : at ≤ length page.views = subst (IsWithin page) c.in-At.is f.within in
    let near = inner-beside z number page x decoded kind y at child few child_is false below.row below.left fit some.0 in
    let fault = c.in_err-left-in-Some.field-0.0 in
    let count = S.count v in
    let limit = c.args.limit in
    let p = err_from_is_err_and c.from_residual-in_err-left-in-Some.result c.from_residual-in_err-left-in-Some.ensures.1 in
    rw (p.1, p.2)
    (short-passed z number page x decoded kind (IsFullIndex order) at limit count fault c.args.levels 2 (short_most below.left) y below.left (short-enough below.left) uses (omega (arith, gr.count, f.count)) (omega (arith, gr.most, f.count))
    (λ levels tree trunks is free ready.
    let beside = near levels tree trunks is free ready in (
      beside.0,
      beside.1.free,
      subst (λ (q : Sizes). IsShort q (short_most below.left) limit y beside.0 count fault) two
          (c.in_err-left-in-Some.ensures.refuses n.0 beside.0 n.1 (subst⁻¹ (λ (q : Sizes). HasBeside q page at child below.left y beside.0) two beside.1)),
    )))
