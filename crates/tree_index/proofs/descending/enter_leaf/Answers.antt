use Rattle.std.proofs.Common.{◌≡◌, ◌+◌, ◌≤◌, ℕ, List, length, sym, ap, subst, arith, inl, IfErr}
use Rattle.std.proofs.Math.Path.{subst⁻¹}
use Rattle.std.proofs.lemmas.Result.{IfOk-weaker, err_from_is_err_and}
use Rattle.std.specs.List.{All}
use Rattle.format_spec.specs.declared.PageKind.{PageKind}
use Rattle.format_spec.specs.declared.PageKind.TheVariants.{IndexLeaf}
use Rattle.page_spec.specs.Rooms.{IsOneCell, needs}
use Rattle.tree_balance.specs.Cuts.{page_room}
use Rattle.tree_spec.specs.Standing.{Sizes}
use Rattle.tree_spec.specs.Worlds.{IsFree}
use Rattle.tree_pages.specs.Takes.{IsShort, RisesBy}
use Rattle.tree_pages.specs.TakesLaws.{rises-then, short-more}
use Rattle.tree_pages.specs.Writers.{Becomes, paged, sizes_of}
use Rattle.tree_pages.specs.WritersLaws.{sizes-same}
use Rattle.tree_level.specs.Changes.{Changes}
use Rattle.tree_level.specs.Levels.{above_kind}
use Rattle.tree_index.specs.Needs.{overflow_pages}
use Rattle.tree_index.specs.Puts.{inserting}
use Rattle.tree_index.proofs.Entering.{cell-fits, one-cell}
use Rattle.tree_index.proofs.Needed.{chain-result, changes-take, if-ok_join, makes-then}
use Rattle.tree_index.proofs.descending.enter_leaf.Goals as goal

pub change_page-requires-clause-comes : goal.change_page-requires-clause-comes
change_page-requires-clause-comes g c =
    let S = g.S.PageRead in
    let a = c.args.store.now in
    let s = c.make_cell.new.store in
    let z = sizes_of S a in
    let page = c.args.page in
    let payload = c.args.payload.now in
    let mk = c.in_ok-cell.ensures in
    let cell = c.in_ok-cell.cell in
    let comes = c.in_ok-comes.comes.items in
    let one : sizes_of S s ≡ z = sizes-same S a s mk.owes.stays in
    let all : All (IsOneCell page.kind (S.usable s)) comes =
    subst⁻¹ (λ (u : ℕ). All (IsOneCell page.kind u) comes) mk.owes.stays.usable (one-cell (S.usable a) cell comes page.kind c.requires.kind mk.cell c.in_ok-comes.ensures) in
    all

pub returns-clause-enters : goal.returns-clause-enters
returns-clause-enters g c =
    let S = g.S.PageRead in
    let a = c.args.store.now in
    let s = c.make_cell.new.store in
    let v = c.change_page.new.store in
    let z = sizes_of S a in
    let page = c.args.page in
    let payload = c.args.payload.now in
    let mk = c.in_ok-cell.ensures in
    let cell = c.in_ok-cell.cell in
    let comes = c.in_ok-comes.comes.items in
    let one : sizes_of S s ≡ z = sizes-same S a s mk.owes.stays in
    IfOk-weaker c.change_page.result _ _
    (λ dividers (changed : Becomes S s v (Changes (sizes_of S s) page (inserting page c.args.at) comes dividers.items)). λ old told.
    let n = mk.made old told in
    let k = changed n.0 n.1 in
    let y = paged S s n.0 in
    let w = paged S v k.0 in (
      k.0,
      k.1,
      (
        cell,
        y,
        n.2,
        subst (λ (l : List (List ℕ)). Changes z page (inserting page c.args.at) l dividers.items y w) c.in_ok-comes.ensures
            (subst (λ (m : Sizes). Changes m page (inserting page c.args.at) comes dividers.items y w) one k.2),
      ),
    )) c.change_page.ensures.changed

pub returns-clause-dividers : goal.returns-clause-dividers
returns-clause-dividers g c =
    let S = g.S.PageRead in
    let a = c.args.store.now in
    let s = c.make_cell.new.store in
    let v = c.change_page.new.store in
    let z = sizes_of S a in
    let page = c.args.page in
    let payload = c.args.payload.now in
    let mk = c.in_ok-cell.ensures in
    let cell = c.in_ok-cell.cell in
    let comes = c.in_ok-comes.comes.items in
    let one : sizes_of S s ≡ z = sizes-same S a s mk.owes.stays in
    IfOk-weaker c.change_page.result _ _
    (λ dividers every. subst (λ (u : ℕ). All (IsOneCell (above_kind IndexLeaf) u) dividers.items) mk.owes.stays.usable (subst (λ (k : PageKind). All (IsOneCell (above_kind k) (S.usable s)) dividers.items) c.requires.kind every))
    c.change_page.ensures.dividers

pub returns-clause-few : goal.returns-clause-few
returns-clause-few g c =
    let S = g.S.PageRead in
    let a = c.args.store.now in
    let s = c.make_cell.new.store in
    let v = c.change_page.new.store in
    let z = sizes_of S a in
    let page = c.args.page in
    let payload = c.args.payload.now in
    let mk = c.in_ok-cell.ensures in
    let cell = c.in_ok-cell.cell in
    let comes = c.in_ok-comes.comes.items in
    let one : sizes_of S s ≡ z = sizes-same S a s mk.owes.stays in
    let low : needs comes ≤ page_room page.kind (S.usable s) =
    subst⁻¹ (λ (u : ℕ). needs comes ≤ page_room page.kind u) mk.owes.stays.usable
    (cell-fits (S.usable a) comes page.kind c.requires.sizes.usable (one-cell (S.usable a) cell comes page.kind c.requires.kind mk.cell c.in_ok-comes.ensures) (omega (arith, ap length c.in_ok-comes.ensures))) in
    IfOk-weaker c.change_page.result _ _ (λ dividers few. few low) c.change_page.ensures.few

pub returns-clause-takes : goal.returns-clause-takes
returns-clause-takes g c =
    let S = g.S.PageRead in
    let a = c.args.store.now in
    let s = c.make_cell.new.store in
    let v = c.change_page.new.store in
    let z = sizes_of S a in
    let page = c.args.page in
    let payload = c.args.payload.now in
    let mk = c.in_ok-cell.ensures in
    let cell = c.in_ok-cell.cell in
    let comes = c.in_ok-comes.comes.items in
    let one : sizes_of S s ≡ z = sizes-same S a s mk.owes.stays in
    let all : All (IsOneCell page.kind (S.usable s)) comes =
    subst⁻¹ (λ (u : ℕ). All (IsOneCell page.kind u) comes) mk.owes.stays.usable (one-cell (S.usable a) cell comes page.kind c.requires.kind mk.cell c.in_ok-comes.ensures) in
    let low : needs comes ≤ page_room page.kind (S.usable s) =
    subst⁻¹ (λ (u : ℕ). needs comes ≤ page_room page.kind u) mk.owes.stays.usable
    (cell-fits (S.usable a) comes page.kind c.requires.sizes.usable (one-cell (S.usable a) cell comes page.kind c.requires.kind mk.cell c.in_ok-comes.ensures) (omega (arith, ap length c.in_ok-comes.ensures))) in
    if-ok_join c.change_page.result
    (λ dividers (changed : Becomes S s v (Changes (sizes_of S s) page (inserting page c.args.at) comes dividers.items)) few. λ old told.
    let n = mk.made old told in
    let k = changed n.0 n.1 in
    let x = paged S a old in
    let y = paged S s n.0 in
    let w = paged S v k.0 in
    let every = subst (λ (u : ℕ). All (IsOneCell page.kind u) comes) mk.owes.stays.usable all in
    let changes = subst (λ (m : Sizes). Changes m page (inserting page c.args.at) comes dividers.items y w) one k.2 in (
      k.0,
      k.1,
      makes-then z payload cell page.number 2 x y w n.2 (changes-take z page 0 (inserting page c.args.at) comes dividers.items 2 y w c.requires.page (sym c.requires.kind) every (few low) changes),
    )) c.change_page.ensures.changed c.change_page.ensures.few

pub returns-clause-rises : goal.returns-clause-rises
returns-clause-rises g c =
    let S = g.S.PageRead in
    let a = c.args.store.now in
    let s = c.make_cell.new.store in
    let v = c.change_page.new.store in
    let z = sizes_of S a in
    let page = c.args.page in
    let payload = c.args.payload.now in
    let mk = c.in_ok-cell.ensures in
    let cell = c.in_ok-cell.cell in
    let comes = c.in_ok-comes.comes.items in
    let one : sizes_of S s ≡ z = sizes-same S a s mk.owes.stays in
    let low : needs comes ≤ page_room page.kind (S.usable s) =
    subst⁻¹ (λ (u : ℕ). needs comes ≤ page_room page.kind u) mk.owes.stays.usable
    (cell-fits (S.usable a) comes page.kind c.requires.sizes.usable (one-cell (S.usable a) cell comes page.kind c.requires.kind mk.cell c.in_ok-comes.ensures) (omega (arith, ap length c.in_ok-comes.ensures))) in
    let chain = overflow_pages (S.usable a) (length payload) in
    if-ok_join c.change_page.result
    (λ dividers (rises : RisesBy S (length dividers.items) s v) few.
    let most = few low in
    let all = rises-then S a s v chain (length dividers.items) mk.owes.stays.size mk.rises rises in
    omega (arith, all, most)) c.change_page.ensures.rises c.change_page.ensures.few

pub returns-clause-refuses : goal.returns-clause-refuses
returns-clause-refuses g c = λ m trunks told free.
    let S = g.S.PageRead in
    let a = c.args.store.now in
    let s = c.make_cell.new.store in
    let v = c.change_page.new.store in
    let z = sizes_of S a in
    let page = c.args.page in
    let payload = c.args.payload.now in
    let mk = c.in_ok-cell.ensures in
    let cell = c.in_ok-cell.cell in
    let comes = c.in_ok-comes.comes.items in
    let one : sizes_of S s ≡ z = sizes-same S a s mk.owes.stays in
    let low : needs comes ≤ page_room page.kind (S.usable s) =
    subst⁻¹ (λ (u : ℕ). needs comes ≤ page_room page.kind u) mk.owes.stays.usable
    (cell-fits (S.usable a) comes page.kind c.requires.sizes.usable (one-cell (S.usable a) cell comes page.kind c.requires.kind mk.cell c.in_ok-comes.ensures) (omega (arith, ap length c.in_ok-comes.ensures))) in
    let n = mk.made m told in
    let x = paged S a m in
    let y = paged S s n.0 in
    chain-result z payload cell 2 c.args.limit (S.count v) x y c.change_page.result n.2 mk.most
    (λ rest kept. subst (λ (k : Sizes). IfErr c.change_page.result (IsShort k 2 c.args.limit y rest (S.count v))) one (c.change_page.ensures.refuses low n.0 rest n.1 (subst⁻¹ (λ (k : Sizes). IsFree k y rest) one kept)))
    trunks free

pub returns-in_err-cell-clause-refuses : goal.returns-in_err-cell-clause-refuses
returns-in_err-cell-clause-refuses g c = λ m trunks told free.
    let S = g.S.PageRead in
    let a = c.args.store.now in
    let chain = overflow_pages (S.usable a) (length c.args.payload.now) in
    let p = err_from_is_err_and c.from_residual.result c.from_residual.ensures.1 in
    rw (p.1, p.2)
    (short-more (sizes_of S a) c.args.limit (S.count c.make_cell.new.store) c.in_err-cell.field-0.0 (paged S a m) trunks chain (2 + chain) (omega arith) (c.in_err-cell.ensures.refuses m trunks told free))

pub returns-in_err-comes-clause-refuses : goal.returns-in_err-comes-clause-refuses
returns-in_err-comes-clause-refuses g c = λ m trunks told free.
    let p = err_from_is_err_and c.from_residual-in_err-comes.result c.from_residual-in_err-comes.ensures.1 in
    rw (p.1, p.2) (inl tt)
