use Rattle.std.proofs.Common.{◌≡◌, ℕ, length, refl, sym, ◌∙◌, subst, arith, slice_get, ◌+◌, ◌<◌, IfErr}
use Rattle.std.proofs.Math.Path.{subst⁻¹}
use Rattle.std.proofs.lemmas.Result.{IfOk-weaker, err_from_is_err_and, on_ok_weaker}
use Rattle.std.specs.List.{All}
use Rattle.format_spec.specs.declared.PageKind.TheVariants.{IndexInterior}
use Rattle.page_spec.specs.Pages.{IsInRange}
use Rattle.page_spec.specs.Rooms.{IsOneCell}
use Rattle.page_store.specs.StoreLaws.{IfSome-told, at-sizes}
use Rattle.tree_spec.specs.Faults.{IsDamageOrOther}
use Rattle.tree_spec.specs.Standing.{Sizes, Paged}
use Rattle.tree_spec.specs.Worlds.{IsFree}
use Rattle.tree_pages.specs.Takes.{IsShort, RisesBy}
use Rattle.tree_pages.specs.TakesLaws.{rises-none, rises-read}
use Rattle.tree_pages.specs.Writers.{paged, sizes_of}
use Rattle.tree_pages.specs.WritersLaws.{sizes-same}
use Rattle.tree_walk.specs.Pages.{IsDecoded, IsReadFault}
use Rattle.tree_walk.specs.Places.{child_or}
use Rattle.tree_index.specs.declared.searching.Sought.TheVariants as sought_of
use Rattle.tree_index.specs.Needs.{IsShortLeaf, IsShortUnder, TakesUnder, overflow_pages}
use Rattle.tree_index.specs.Puts.{EntersInto, Finds, PassesToRoot, risen_cells}
use Rattle.tree_index.specs.Searches.{IsBadEntry, IsSought}
use Rattle.tree_index.proofs.Entering.{enters-same, into-same, page-finds, passed-to_root}
use Rattle.tree_index.specs.ReadsLaws.{read-there}
use Rattle.tree_index.proofs.Needed.{leaf-same, own-result, same-paged, short-same, under-child, under-named, under-other, under-result, under-same}
use Rattle.tree_index.specs.ReadsLaws.{index-read, searched-other}
use Rattle.tree_index.specs.PlacesLaws.{decoded-own}
use Rattle.tree_index.proofs.putting.put_root.Goals as goal

pub returns-in-IndexLeaf-clause-enters : goal.returns-in-IndexLeaf-clause-enters
returns-in-IndexLeaf-clause-enters g c =
    let S = g.S.PageRead in
    let a = c.args.store.now in
    let z = sizes_of S a in
    let number = c.args.root in
    let order = c.args.order.now in
    let payload = c.args.payload.now in
    let s = c.read_page.new.store in
    let rd = c.in_ok-page.ensures in
    let page = c.in_ok-page.page in
    let one : sizes_of S s ≡ z = sizes-same S a s rd.owes.stays in
    IfOk-weaker c.put_in_root.result _ _ (λ inserted puts. λ old told.
    let decoded : IsDecoded (old number) number (S.usable a) page = IfSome-told (λ p. IsDecoded (p number) number (S.usable a) page) old told rd.pages.answer in
    let own = decoded-own number (S.usable a) page rd.read in
    let there = read-there number (S.usable a) page old decoded in
    let x = paged S a old in
    let r = puts old (rd.pages.same ∙ told) in (
      r.0,
      r.1,
      into-same (sizes_of S s) z order payload page.number number (S.count s) (S.count a) inserted old (paged S c.put_in_root.new.store r.0) one decoded.number_is rd.pages.count (r.2 there),
    )) c.put_in_root.ensures.enters

pub returns-in-IndexLeaf-clause-rises : goal.returns-in-IndexLeaf-clause-rises
returns-in-IndexLeaf-clause-rises g c =
    let S = g.S.PageRead in
    let a = c.args.store.now in
    let z = sizes_of S a in
    let number = c.args.root in
    let order = c.args.order.now in
    let payload = c.args.payload.now in
    let s = c.read_page.new.store in
    let rd = c.in_ok-page.ensures in
    let page = c.in_ok-page.page in
    let one : sizes_of S s ≡ z = sizes-same S a s rd.owes.stays in
    let v = c.put_in_root.new.store in
    let most = 3 + overflow_pages (S.usable a) (length payload) in
    on_ok_weaker c.put_in_root.result
    (λ (rises : RisesBy S (3 + overflow_pages (S.usable s) (length payload)) s v).
    let same = subst (λ (u : ℕ). RisesBy S (3 + overflow_pages u (length payload)) s v) rd.owes.stays.usable rises in
    let all = rises-read S most a s v rd.owes.stays.size rd.pages.count same in
    omega (arith, all)) c.put_in_root.ensures.rises

pub returns-in-IndexLeaf-clause-refuses : goal.returns-in-IndexLeaf-clause-refuses
returns-in-IndexLeaf-clause-refuses g c = λ m told.
    let S = g.S.PageRead in
    let a = c.args.store.now in
    let z = sizes_of S a in
    let number = c.args.root in
    let order = c.args.order.now in
    let payload = c.args.payload.now in
    let s = c.read_page.new.store in
    let rd = c.in_ok-page.ensures in
    let page = c.in_ok-page.page in
    let one : sizes_of S s ≡ z = sizes-same S a s rd.owes.stays in
    let decoded : IsDecoded (m number) number (S.usable a) page = IfSome-told (λ p. IsDecoded (p number) number (S.usable a) page) m told rd.pages.answer in
    let own = decoded-own number (S.usable a) page rd.read in
    let there = read-there number (S.usable a) page m decoded in
    let x = paged S a m in
    let v = c.put_in_root.new.store in
    let result = c.put_in_root.result in
    let short = c.put_in_root.ensures.refuses m (rd.pages.same ∙ told) there in
    let same = subst (λ (u : ℕ). IfErr result (IsShortLeaf (sizes_of S s) order (3 + overflow_pages u (length payload)) c.args.limit page.number (paged S s m) (S.count v))) rd.owes.stays.usable short in
    under-result z order 24 (3 + overflow_pages (S.usable a) (length payload)) c.args.limit number (S.count v) x result
    (leaf-same (sizes_of S s) z order (3 + overflow_pages (S.usable a) (length payload)) c.args.limit page.number number (S.count s) (S.count a) (S.count v) m result one decoded.number_is rd.pages.count same)

pub returns-in_err-page-clause-refuses : goal.returns-in_err-page-clause-refuses
returns-in_err-page-clause-refuses g c = λ m told.
    let S = g.S.PageRead in
    let a = c.args.store.now in
    let z = sizes_of S a in
    let number = c.args.root in
    let order = c.args.order.now in
    let payload = c.args.payload.now in
    let fault = c.in_err-page.field-0.0 in
    let bad : IsReadFault (m number) number (S.usable a) fault = IfSome-told (λ p. IsReadFault (p number) number (S.usable a) fault) m told c.in_err-page.ensures.pages.answer in
    let p = err_from_is_err_and c.from_residual.result c.from_residual.ensures.1 in
    rw (p.1, p.2)
    (under-other z order c.args.limit (S.count c.read_page.new.store) fault 24 (3 + overflow_pages (S.usable a) (length payload)) number (paged S a m) (λ levels tree is stands entries. index-read z (paged S a m) number levels tree fault is stands bad))

pub returns-in_err-sought-in-IndexInterior-clause-refuses : goal.returns-in_err-sought-in-IndexInterior-clause-refuses
returns-in_err-sought-in-IndexInterior-clause-refuses g c = λ m told.
    let S = g.S.PageRead in
    let a = c.args.store.now in
    let z = sizes_of S a in
    let number = c.args.root in
    let order = c.args.order.now in
    let payload = c.args.payload.now in
    let s = c.read_page.new.store in
    let rd = c.in_ok-page.ensures in
    let page = c.in_ok-page.page in
    let one : sizes_of S s ≡ z = sizes-same S a s rd.owes.stays in
    let decoded : IsDecoded (m number) number (S.usable a) page = IfSome-told (λ p. IsDecoded (p number) number (S.usable a) page) m told rd.pages.answer in
    let own = decoded-own number (S.usable a) page rd.read in
    let there = read-there number (S.usable a) page m decoded in
    let x = paged S a m in
    let fault = c.in_err-sought-in-IndexInterior.field-0.0 in
    let bad = at-sizes S rd.owes.stays rd.pages.count (λ size usable n. IsDamageOrOther (λ k r. (at : ℕ) × (at < length page.views) × IsBadEntry m size usable n page order at k r) fault)
    (IfSome-told (λ p. IsDamageOrOther (λ k r. (at : ℕ) × (at < length page.views) × IsBadEntry p (S.size s) (S.usable s) (S.count s) page order at k r) fault) m (rd.pages.same ∙ told)
    c.in_err-sought-in-IndexInterior.ensures.pages.answer) in
    let p = err_from_is_err_and c.from_residual-in_err-sought-in-IndexInterior.result c.from_residual-in_err-sought-in-IndexInterior.ensures.1 in
    rw (p.1, p.2)
    (under-other z order c.args.limit (S.count c.search.new.store) fault 24 (3 + overflow_pages (S.usable a) (length payload)) number x
    (λ levels tree is stands entries. searched-other z x number order levels tree page fault (is ∙ sym decoded.number_is) stands entries there own bad))

pub returns-in-Present-clause-enters : goal.returns-in-Present-clause-enters
returns-in-Present-clause-enters g c = λ old told.
    let S = g.S.PageRead in
    let a = c.args.store.now in
    let z = sizes_of S a in
    let number = c.args.root in
    let order = c.args.order.now in
    let payload = c.args.payload.now in
    let s = c.read_page.new.store in
    let rd = c.in_ok-page.ensures in
    let page = c.in_ok-page.page in
    let one : sizes_of S s ≡ z = sizes-same S a s rd.owes.stays in
    let decoded : IsDecoded (old number) number (S.usable a) page = IfSome-told (λ p. IsDecoded (p number) number (S.usable a) page) old told rd.pages.answer in
    let own = decoded-own number (S.usable a) page rd.read in
    let there = read-there number (S.usable a) page old decoded in
    let x = paged S a old in
    let q = c.search.new.store in
    let se = c.in_ok-sought-in-IndexInterior.ensures in
    let two : sizes_of S q ≡ z = sizes-same S s q se.owes.stays ∙ one in
    let count : S.count q ≡ S.count a = se.pages.count ∙ rd.pages.count in
    let sought = at-sizes S rd.owes.stays rd.pages.count (λ size usable n. IsSought old size usable n page order payload c.in_ok-sought-in-IndexInterior.sought)
    (IfSome-told (λ p. IsSought p (S.size s) (S.usable s) (S.count s) page order payload c.in_ok-sought-in-IndexInterior.sought) old (rd.pages.same ∙ told) se.pages.answer) in
    let found = subst (IsSought old (S.size a) (S.usable a) (S.count a) page order payload) c.in-Present.is sought in
    let finds = page-finds z order payload c.requires.entry page x there own c.in-IndexInterior.is _ found in (
      old,
      se.pages.same ∙ (rd.pages.same ∙ told),
      subst (λ (n : ℕ). Finds z order payload n x (paged S q old)) decoded.number_is (subst⁻¹ (λ (y : Paged). Finds z order payload page.number x y) (same-paged S a q old count) finds),
    )

pub returns-in-Present-clause-rises : goal.returns-in-Present-clause-rises
returns-in-Present-clause-rises g c =
    let S = g.S.PageRead in
    let a = c.args.store.now in
    let z = sizes_of S a in
    let number = c.args.root in
    let order = c.args.order.now in
    let payload = c.args.payload.now in
    let s = c.read_page.new.store in
    let rd = c.in_ok-page.ensures in
    let page = c.in_ok-page.page in
    let one : sizes_of S s ≡ z = sizes-same S a s rd.owes.stays in
    let q = c.search.new.store in
    let se = c.in_ok-sought-in-IndexInterior.ensures in
    let two : sizes_of S q ≡ z = sizes-same S s q se.owes.stays ∙ one in
    let count : S.count q ≡ S.count a = se.pages.count ∙ rd.pages.count in
    let none = rises-none S a q count in
    omega (arith, none)

pub returns-in_err-child-in-At-clause-refuses : goal.returns-in_err-child-in-At-clause-refuses
returns-in_err-child-in-At-clause-refuses g c = λ m told.
    let S = g.S.PageRead in
    let a = c.args.store.now in
    let z = sizes_of S a in
    let number = c.args.root in
    let order = c.args.order.now in
    let payload = c.args.payload.now in
    let s = c.read_page.new.store in
    let rd = c.in_ok-page.ensures in
    let page = c.in_ok-page.page in
    let one : sizes_of S s ≡ z = sizes-same S a s rd.owes.stays in
    let decoded : IsDecoded (m number) number (S.usable a) page = IfSome-told (λ p. IsDecoded (p number) number (S.usable a) page) m told rd.pages.answer in
    let own = decoded-own number (S.usable a) page rd.read in
    let there = read-there number (S.usable a) page m decoded in
    let x = paged S a m in
    let q = c.search.new.store in
    let se = c.in_ok-sought-in-IndexInterior.ensures in
    let two : sizes_of S q ≡ z = sizes-same S s q se.owes.stays ∙ one in
    let count : S.count q ≡ S.count a = se.pages.count ∙ rd.pages.count in
    let at = c.in-At.at in
    let named = child_or page.right (slice_get page.views at) in
    let size : S.size q ≡ S.size a = se.owes.stays.size ∙ rd.owes.stays.size in
    let out : ¬ IsInRange (S.size a) (S.count a) named =
    subst (λ (n : ℕ). ¬ IsInRange (S.size a) n named) count (subst (λ (n : ℕ). ¬ IsInRange n (S.count q) named) size c.in_err-child-in-At.ensures.out) in
    let p = err_from_is_err_and c.from_residual-in_err-child-in-At.result c.from_residual-in_err-child-in-At.ensures.1 in
    rw (p.1, p.2)
    (under-named z order c.args.limit (S.count q) c.in_err-child-in-At.field-0.0 number page at x decoded c.in-IndexInterior.is 24 (3 + overflow_pages (S.usable a) (length payload)) out)

pub returns-in_err-below-in-At-clause-refuses : goal.returns-in_err-below-in-At-clause-refuses
returns-in_err-below-in-At-clause-refuses g c = λ m told.
    let S = g.S.PageRead in
    let a = c.args.store.now in
    let z = sizes_of S a in
    let number = c.args.root in
    let order = c.args.order.now in
    let payload = c.args.payload.now in
    let s = c.read_page.new.store in
    let rd = c.in_ok-page.ensures in
    let page = c.in_ok-page.page in
    let one : sizes_of S s ≡ z = sizes-same S a s rd.owes.stays in
    let decoded : IsDecoded (m number) number (S.usable a) page = IfSome-told (λ p. IsDecoded (p number) number (S.usable a) page) m told rd.pages.answer in
    let own = decoded-own number (S.usable a) page rd.read in
    let there = read-there number (S.usable a) page m decoded in
    let x = paged S a m in
    let q = c.search.new.store in
    let se = c.in_ok-sought-in-IndexInterior.ensures in
    let two : sizes_of S q ≡ z = sizes-same S s q se.owes.stays ∙ one in
    let count : S.count q ≡ S.count a = se.pages.count ∙ rd.pages.count in
    let at = c.in-At.at in
    let ch = c.in_ok-child-in-At.ensures in
    let child = c.in_ok-child-in-At.child in
    let named = child_or page.right (slice_get page.views at) in
    let limit = c.args.limit in
    let fault = c.in_err-below-in-At.field-0.0 in
    let now = S.count c.put_below.new.store in
    let usable : S.usable q ≡ S.usable a = se.owes.stays.usable ∙ rd.owes.stays.usable in
    let short = subst (λ (u : ℕ). IsShortUnder (sizes_of S q) order 23 (2 + overflow_pages u (length payload)) limit child (paged S q m) now fault) usable
    (c.in_err-below-in-At.ensures.refuses m (se.pages.same ∙ (rd.pages.same ∙ told))) in
    let p = err_from_is_err_and c.from_residual-in_err-below-in-At.result c.from_residual-in_err-below-in-At.ensures.1 in
    rw (p.1, p.2)
    (under-child z order limit now fault number page at x decoded c.in-IndexInterior.is 23 24 (2 + overflow_pages (S.usable a) (length payload)) (3 + overflow_pages (S.usable a) (length payload)) (refl) (omega arith)
    (short-same (sizes_of S q) z order 23 (2 + overflow_pages (S.usable a) (length payload)) limit child named (S.count q) (S.count a) now m fault two ch.named count short))

pub returns-in_ok-below-in-At-clause-enters : goal.returns-in_ok-below-in-At-clause-enters
returns-in_ok-below-in-At-clause-enters g c =
    let S = g.S.PageRead in
    let a = c.args.store.now in
    let z = sizes_of S a in
    let number = c.args.root in
    let order = c.args.order.now in
    let payload = c.args.payload.now in
    let s = c.read_page.new.store in
    let rd = c.in_ok-page.ensures in
    let page = c.in_ok-page.page in
    let one : sizes_of S s ≡ z = sizes-same S a s rd.owes.stays in
    let q = c.search.new.store in
    let se = c.in_ok-sought-in-IndexInterior.ensures in
    let two : sizes_of S q ≡ z = sizes-same S s q se.owes.stays ∙ one in
    let count : S.count q ≡ S.count a = se.pages.count ∙ rd.pages.count in
    let at = c.in-At.at in
    let ch = c.in_ok-child-in-At.ensures in
    let child = c.in_ok-child-in-At.child in
    let named = child_or page.right (slice_get page.views at) in
    let b = c.put_below.new.store in
    let be = c.in_ok-below-in-At.ensures in
    let came = c.in_ok-below-in-At.below in
    let three : sizes_of S b ≡ z = sizes-same S q b be.owes.stays ∙ two in
    let v = c.pass_to_root.new.store in
    IfOk-weaker c.pass_to_root.result _ _ (λ passed passes. λ old told.
    let decoded : IsDecoded (old number) number (S.usable a) page = IfSome-told (λ p. IsDecoded (p number) number (S.usable a) page) old told rd.pages.answer in
    let own = decoded-own number (S.usable a) page rd.read in
    let there = read-there number (S.usable a) page old decoded in
    let x = paged S a old in
    let sought = at-sizes S rd.owes.stays rd.pages.count (λ size usable n. IsSought old size usable n page order payload c.in_ok-sought-in-IndexInterior.sought)
    (IfSome-told (λ p. IsSought p (S.size s) (S.usable s) (S.count s) page order payload c.in_ok-sought-in-IndexInterior.sought) old (rd.pages.same ∙ told) se.pages.answer) in
    let found : IsSought old (S.size a) (S.usable a) (S.count a) page order payload (sought_of.At at) = subst (IsSought old (S.size a) (S.usable a) (S.count a) page order payload) c.in-At.is sought in
    let n = be.enters old (se.pages.same ∙ (rd.pages.same ∙ told)) in
    let y = paged S b n.0 in
    let under = enters-same (sizes_of S q) z order payload child child (S.count q) (S.count a) came old y two refl count n.2 in
    let k = passes n.0 n.1 in
    let w = paged S v k.0 in
    let on = subst (λ (m : Sizes). PassesToRoot m page at came passed y w) three k.2 in (
      k.0,
      k.1,
      subst (λ (n : ℕ). EntersInto z order payload n passed x w) decoded.number_is
          (passed-to_root z order payload c.requires.entry page x there own c.in-IndexInterior.is at found child ch.child y w came passed under on),
    )) c.pass_to_root.ensures.passed

pub returns-in_ok-below-in-At-clause-refuses : goal.returns-in_ok-below-in-At-clause-refuses
returns-in_ok-below-in-At-clause-refuses g c = λ m told.
    let S = g.S.PageRead in
    let a = c.args.store.now in
    let z = sizes_of S a in
    let number = c.args.root in
    let order = c.args.order.now in
    let payload = c.args.payload.now in
    let s = c.read_page.new.store in
    let rd = c.in_ok-page.ensures in
    let page = c.in_ok-page.page in
    let one : sizes_of S s ≡ z = sizes-same S a s rd.owes.stays in
    let decoded : IsDecoded (m number) number (S.usable a) page = IfSome-told (λ p. IsDecoded (p number) number (S.usable a) page) m told rd.pages.answer in
    let own = decoded-own number (S.usable a) page rd.read in
    let there = read-there number (S.usable a) page m decoded in
    let x = paged S a m in
    let q = c.search.new.store in
    let se = c.in_ok-sought-in-IndexInterior.ensures in
    let two : sizes_of S q ≡ z = sizes-same S s q se.owes.stays ∙ one in
    let count : S.count q ≡ S.count a = se.pages.count ∙ rd.pages.count in
    let at = c.in-At.at in
    let ch = c.in_ok-child-in-At.ensures in
    let child = c.in_ok-child-in-At.child in
    let named = child_or page.right (slice_get page.views at) in
    let b = c.put_below.new.store in
    let be = c.in_ok-below-in-At.ensures in
    let came = c.in_ok-below-in-At.below in
    let three : sizes_of S b ≡ z = sizes-same S q b be.owes.stays ∙ two in
    let v = c.pass_to_root.new.store in
    let usable : S.usable q ≡ S.usable a = se.owes.stays.usable ∙ rd.owes.stays.usable in
    let limit = c.args.limit in
    let n = be.takes m (se.pages.same ∙ (rd.pages.same ∙ told)) in
    let y = paged S b n.0 in
    let under = under-same (sizes_of S q) z (2 + overflow_pages (S.usable a) (length payload)) child named (S.count q) (S.count a) m y two ch.named count
    (subst (λ (u : ℕ). TakesUnder (sizes_of S q) (2 + overflow_pages u (length payload)) child (paged S q m) y) usable n.2) in
    own-result z order number page at x decoded c.in-IndexInterior.is limit (S.count v) 24 (2 + overflow_pages (S.usable a) (length payload)) 3 (3 + overflow_pages (S.usable a) (length payload)) y (omega arith) under (omega (arith, be.most, count)) c.pass_to_root.result
    (λ trunks free.
    subst (λ (k : Sizes). IfErr c.pass_to_root.result (IsShort k 3 limit y trunks (S.count v))) three (c.pass_to_root.ensures.refuses n.0 trunks n.1 (subst⁻¹ (λ (k : Sizes). IsFree k y trunks) three free)))

pub pass_to_root-requires-clause-dividers : goal.pass_to_root-requires-clause-dividers
pass_to_root-requires-clause-dividers g c =
    let be = c.in_ok-below-in-At.ensures in
    subst⁻¹ (λ (u : ℕ). All (IsOneCell IndexInterior u) (risen_cells c.in_ok-below-in-At.below)) be.owes.stays.usable be.dividers
