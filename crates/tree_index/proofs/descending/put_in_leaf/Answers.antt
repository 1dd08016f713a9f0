use Rattle.std.proofs.Common.{◌≡◌, ◌+◌, ◌<◌, ℕ, length, refl, ◌∙◌, subst, arith, inl}
use Rattle.std.proofs.Math.Path.{subst⁻¹}
use Rattle.std.proofs.lemmas.Result.{err_from_is_err_and}
use Rattle.std.specs.List.{All}
use Rattle.format_spec.specs.declared.PageKind.TheVariants.{IndexInterior}
use Rattle.page_spec.specs.Rooms.{IsOneCell}
use Rattle.page_store.specs.StoreLaws.{IfSome-told}
use Rattle.tree_spec.specs.Faults.{IsDamageOrOther}
use Rattle.tree_spec.specs.Standing.{Sizes, Paged}
use Rattle.tree_pages.specs.Takes.{IsShort, RisesBy}
use Rattle.tree_pages.specs.TakesLaws.{rises-none, rises-read}
use Rattle.tree_pages.specs.Writers.{paged, sizes_of}
use Rattle.tree_pages.specs.WritersLaws.{sizes-same}
use Rattle.tree_index.specs.declared.searching.Sought.TheVariants as sought_of
use Rattle.tree_index.specs.Needs.{TakesAt, overflow_pages}
use Rattle.tree_index.specs.Puts.{EntersLeaf, Finds}
use Rattle.tree_index.specs.Searches.{IsBadEntry, IsSought}
use Rattle.tree_index.proofs.Entering.{leaf-enters, leaf-finds}
use Rattle.tree_index.proofs.Needed.{at-same, leaf-short, same-paged, same-takes, trunks-same}
use Rattle.tree_index.specs.ReadsLaws.{searched-other}
use Rattle.tree_index.proofs.descending.put_in_leaf.Goals as goal

pub returns-in_err-sought-clause-refuses : goal.returns-in_err-sought-clause-refuses
returns-in_err-sought-clause-refuses g c = λ m told there.
    let S = g.S.PageRead in
    let a = c.args.store.now in
    let z = sizes_of S a in
    let page = c.args.page in
    let order = c.args.order.now in
    let x = paged S a m in
    let fault = c.in_err-sought.field-0.0 in
    let bad = IfSome-told (λ p. IsDamageOrOther (λ k r. (at : ℕ) × (at < length page.views) × IsBadEntry p (S.size a) (S.usable a) (S.count a) page order at k r) fault) m told c.in_err-sought.ensures.pages.answer in
    let p = err_from_is_err_and c.from_residual.result c.from_residual.ensures.1 in
    rw (p.1, p.2) (λ levels tree trunks is stands entries free. inl (searched-other z x page.number order levels tree page fault is stands entries there c.requires.page bad))

pub returns-in-Present-clause-enters : goal.returns-in-Present-clause-enters
returns-in-Present-clause-enters g c = λ old told.
    let S = g.S.PageRead in
    let a = c.args.store.now in
    let q = c.search.new.store in
    let z = sizes_of S a in
    let page = c.args.page in
    let payload = c.args.payload.now in
    let order = c.args.order.now in
    let se = c.in_ok-sought.ensures in
    let two : sizes_of S q ≡ z = sizes-same S a q se.owes.stays in
    let count : S.count q ≡ S.count a = se.pages.count in
    let usable : S.usable q ≡ S.usable a = se.owes.stays.usable in
    let sought = IfSome-told (λ p. IsSought p (S.size a) (S.usable a) (S.count a) page order payload c.in_ok-sought.sought) old told se.pages.answer in
    let found = subst (IsSought old (S.size a) (S.usable a) (S.count a) page order payload) c.in-Present.is sought in
    let x = paged S a old in (
      old,
      se.pages.same ∙ told,
      λ there. subst⁻¹ (λ (y : Paged). Finds z order payload page.number x y) (same-paged S a q old count) (leaf-finds z order payload c.requires.entry page x there c.requires.page c.requires.kind _ found),
    )

pub returns-in-Present-clause-takes : goal.returns-in-Present-clause-takes
returns-in-Present-clause-takes g c = λ old told.
    let S = g.S.PageRead in
    let a = c.args.store.now in
    let q = c.search.new.store in
    let z = sizes_of S a in
    let page = c.args.page in
    let payload = c.args.payload.now in
    let order = c.args.order.now in
    let se = c.in_ok-sought.ensures in
    let two : sizes_of S q ≡ z = sizes-same S a q se.owes.stays in
    let count : S.count q ≡ S.count a = se.pages.count in
    let usable : S.usable q ≡ S.usable a = se.owes.stays.usable in
    (old, se.pages.same ∙ told, same-takes z page.number (2 + overflow_pages (S.usable a) (length payload)) (paged S a old) (paged S q old) (same-paged S a q old count))

pub returns-in-Present-clause-rises : goal.returns-in-Present-clause-rises
returns-in-Present-clause-rises g c =
    let S = g.S.PageRead in
    let a = c.args.store.now in
    let q = c.search.new.store in
    let z = sizes_of S a in
    let page = c.args.page in
    let payload = c.args.payload.now in
    let order = c.args.order.now in
    let se = c.in_ok-sought.ensures in
    let two : sizes_of S q ≡ z = sizes-same S a q se.owes.stays in
    let count : S.count q ≡ S.count a = se.pages.count in
    let usable : S.usable q ≡ S.usable a = se.owes.stays.usable in
    let none = rises-none S a q count in
    omega (arith, none)

pub returns-in_ok-dividers-in-At-clause-enters : goal.returns-in_ok-dividers-in-At-clause-enters
returns-in_ok-dividers-in-At-clause-enters g c = λ old told.
    let S = g.S.PageRead in
    let a = c.args.store.now in
    let q = c.search.new.store in
    let z = sizes_of S a in
    let page = c.args.page in
    let payload = c.args.payload.now in
    let order = c.args.order.now in
    let se = c.in_ok-sought.ensures in
    let two : sizes_of S q ≡ z = sizes-same S a q se.owes.stays in
    let count : S.count q ≡ S.count a = se.pages.count in
    let usable : S.usable q ≡ S.usable a = se.owes.stays.usable in
    let sought = IfSome-told (λ p. IsSought p (S.size a) (S.usable a) (S.count a) page order payload c.in_ok-sought.sought) old told se.pages.answer in
    let at = c.in-At.at in
    let found : IsSought old (S.size a) (S.usable a) (S.count a) page order payload (sought_of.At at) = subst (IsSought old (S.size a) (S.usable a) (S.count a) page order payload) c.in-At.is sought in
    let up = c.in_ok-dividers-in-At.dividers.items in
    let k = c.in_ok-dividers-in-At.ensures.enters old (se.pages.same ∙ told) in
    let v = c.enter_leaf.new.store in
    let x = paged S a old in
    let w = paged S v k.0 in
    let did = subst (λ (y : Paged). EntersLeaf z page at payload up y w) (same-paged S a q old count) (subst (λ (m : Sizes). EntersLeaf m page at payload up (paged S q old) w) two k.2) in (
      k.0,
      k.1,
      λ there. leaf-enters z order payload c.requires.entry page x there c.requires.page c.requires.kind at found did.0 did.1 w did.2 up did.3,
    )

pub returns-in_ok-dividers-in-At-clause-dividers : goal.returns-in_ok-dividers-in-At-clause-dividers
returns-in_ok-dividers-in-At-clause-dividers g c =
    let S = g.S.PageRead in
    let a = c.args.store.now in
    let q = c.search.new.store in
    let z = sizes_of S a in
    let page = c.args.page in
    let payload = c.args.payload.now in
    let order = c.args.order.now in
    let se = c.in_ok-sought.ensures in
    let two : sizes_of S q ≡ z = sizes-same S a q se.owes.stays in
    let count : S.count q ≡ S.count a = se.pages.count in
    let usable : S.usable q ≡ S.usable a = se.owes.stays.usable in
    subst (λ (u : ℕ). All (IsOneCell IndexInterior u) c.in_ok-dividers-in-At.dividers.items) usable c.in_ok-dividers-in-At.ensures.dividers

pub returns-in_ok-dividers-in-At-clause-takes : goal.returns-in_ok-dividers-in-At-clause-takes
returns-in_ok-dividers-in-At-clause-takes g c = λ old told.
    let S = g.S.PageRead in
    let a = c.args.store.now in
    let q = c.search.new.store in
    let z = sizes_of S a in
    let page = c.args.page in
    let payload = c.args.payload.now in
    let order = c.args.order.now in
    let se = c.in_ok-sought.ensures in
    let two : sizes_of S q ≡ z = sizes-same S a q se.owes.stays in
    let count : S.count q ≡ S.count a = se.pages.count in
    let usable : S.usable q ≡ S.usable a = se.owes.stays.usable in
    let most = 2 + overflow_pages (S.usable a) (length payload) in
    let k = c.in_ok-dividers-in-At.ensures.takes old (se.pages.same ∙ told) in
    let w = paged S c.enter_leaf.new.store k.0 in
    let same = subst (λ (u : ℕ). TakesAt (sizes_of S q) page.number (2 + overflow_pages u (length payload)) (paged S q old) w) usable k.2 in
    (k.0, k.1, at-same (sizes_of S q) z page.number page.number most (S.count q) (S.count a) old w two refl count same)

pub returns-in_ok-dividers-in-At-clause-rises : goal.returns-in_ok-dividers-in-At-clause-rises
returns-in_ok-dividers-in-At-clause-rises g c =
    let S = g.S.PageRead in
    let a = c.args.store.now in
    let q = c.search.new.store in
    let z = sizes_of S a in
    let page = c.args.page in
    let payload = c.args.payload.now in
    let order = c.args.order.now in
    let se = c.in_ok-sought.ensures in
    let two : sizes_of S q ≡ z = sizes-same S a q se.owes.stays in
    let count : S.count q ≡ S.count a = se.pages.count in
    let usable : S.usable q ≡ S.usable a = se.owes.stays.usable in
    let v = c.enter_leaf.new.store in
    let most = 2 + overflow_pages (S.usable a) (length payload) in
    let same = subst (λ (u : ℕ). RisesBy S (2 + overflow_pages u (length payload)) q v) usable c.in_ok-dividers-in-At.ensures.rises in
    rises-read S most a q v se.owes.stays.size count same

pub returns-in_err-dividers-in-At-clause-refuses : goal.returns-in_err-dividers-in-At-clause-refuses
returns-in_err-dividers-in-At-clause-refuses g c = λ m told there.
    let S = g.S.PageRead in
    let a = c.args.store.now in
    let q = c.search.new.store in
    let z = sizes_of S a in
    let page = c.args.page in
    let payload = c.args.payload.now in
    let order = c.args.order.now in
    let se = c.in_ok-sought.ensures in
    let two : sizes_of S q ≡ z = sizes-same S a q se.owes.stays in
    let count : S.count q ≡ S.count a = se.pages.count in
    let usable : S.usable q ≡ S.usable a = se.owes.stays.usable in
    let v = c.enter_leaf.new.store in
    let x = paged S a m in
    let limit = c.args.limit in
    let fault = c.in_err-dividers-in-At.field-0.0 in
    let most = 2 + overflow_pages (S.usable a) (length payload) in
    let p = err_from_is_err_and c.from_residual-in_err-dividers-in-At.result c.from_residual-in_err-dividers-in-At.ensures.1 in
    rw (p.1, p.2)
    (leaf-short z order most limit page.number (S.count v) x fault
    (trunks-same (sizes_of S q) z most limit (S.count q) (S.count a) (S.count v) m fault two count
    (λ trunks free. subst (λ (u : ℕ). IsShort (sizes_of S q) (2 + overflow_pages u (length payload)) limit (paged S q m) trunks (S.count v) fault) usable (c.in_err-dividers-in-At.ensures.refuses m trunks (se.pages.same ∙ told) free))))
