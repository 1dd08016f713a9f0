use Rattle.std.proofs.Common.{subst, length, sym, arith}
use Rattle.std.proofs.lemmas.Result.{IfOk-weaker}
use Rattle.std.proofs.Math.Path.{subst⁻¹}
use Rattle.std.specs.List.{All}
use Rattle.format_spec.specs.declared.PageKind.{PageKind}
use Rattle.page_spec.specs.Rooms.{IsOneCell}
use Rattle.tree_level.specs.Levels.{above_kind}
use Rattle.tree_index.proofs.Entering.{dividers-fit}
use Rattle.tree_pages.specs.Takes.{RisesBy}
use Rattle.tree_pages.specs.TakesLaws.{takes-more, takes-none}
use Rattle.tree_pages.specs.Writers.{Becomes, paged, sizes_of}
use Rattle.tree_level.specs.Changes.{Changes}
use Rattle.tree_index.specs.Puts.{inserting}
use Rattle.tree_index.proofs.Needed.{changes-take, if-ok_join}
use Rattle.tree_index.proofs.descending.raise.Goals as goal

pub change_page-requires-clause-comes : goal.change_page-requires-clause-comes
change_page-requires-clause-comes g c = subst⁻¹ (λ (k : PageKind). All (IsOneCell k (g.S.PageRead.usable c.args.store.now)) c.args.came.items) c.requires.kind c.requires.came

pub returns-clause-dividers : goal.returns-clause-dividers
returns-clause-dividers g c =
    let u = g.S.PageRead.usable c.args.store.now in
    IfOk-weaker c.change_page.result _ _ (λ dividers all. subst (λ (k : PageKind). All (IsOneCell (above_kind k) u) dividers.items) c.requires.kind all) c.change_page.ensures.dividers

pub returns-clause-few : goal.returns-clause-few
returns-clause-few g c =
    let u = g.S.PageRead.usable c.args.store.now in
    IfOk-weaker c.change_page.result _ _ (λ dividers few. few (dividers-fit u c.args.came.items c.args.page.kind c.requires.kind c.requires.sizes.usable c.requires.came c.requires.few)) c.change_page.ensures.few

pub returns-then-is_empty-clause-takes : goal.returns-then-is_empty-clause-takes
returns-then-is_empty-clause-takes g c = λ old told. (
  old,
  told,
  λ hand trunks free within some.
      let z = sizes_of g.S.PageRead c.args.store.now in
      let a = paged g.S.PageRead c.args.store.now old in
      takes-more z a a hand trunks 0 2 (omega arith) (takes-none z a hand trunks),
)

pub returns-clause-takes : goal.returns-clause-takes
returns-clause-takes g c =
    let S = g.S.PageRead in
    let a = c.args.store.now in
    let b = c.change_page.new.store in
    let z = sizes_of S a in
    let page = c.args.page in
    let came = c.args.came.items in
    let all = subst⁻¹ (λ (k : PageKind). All (IsOneCell k z.usable) came) c.requires.kind c.requires.came in
    let low = dividers-fit z.usable came page.kind c.requires.kind c.requires.sizes.usable c.requires.came c.requires.few in
    if-ok_join c.change_page.result
    (λ dividers (changed : Becomes S a b (Changes z page (inserting page c.args.at) came dividers.items)) few. λ old told.
    let r = changed old told in (
      r.0,
      r.1,
      changes-take z page 1 (inserting page c.args.at) came dividers.items 2 (paged S a old) (paged S b r.0) c.requires.page (sym c.requires.kind) all (few low) r.2,
    )) c.change_page.ensures.changed c.change_page.ensures.few

pub returns-clause-rises : goal.returns-clause-rises
returns-clause-rises g c =
    let S = g.S.PageRead in
    let low = dividers-fit (S.usable c.args.store.now) c.args.came.items c.args.page.kind c.requires.kind c.requires.sizes.usable c.requires.came c.requires.few in
    if-ok_join c.change_page.result
    (λ dividers (rises : RisesBy S (length dividers.items) c.args.store.now c.change_page.new.store) few. let most = few low in omega (arith, rises, most)) c.change_page.ensures.rises c.change_page.ensures.few

pub returns-clause-refuses : goal.returns-clause-refuses
returns-clause-refuses g c =
    c.change_page.ensures.refuses (dividers-fit (g.S.PageRead.usable c.args.store.now) c.args.came.items c.args.page.kind c.requires.kind c.requires.sizes.usable c.requires.came c.requires.few)
