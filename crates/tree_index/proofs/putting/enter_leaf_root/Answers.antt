use Rattle.std.proofs.Common.{◌≡◌, ◌+◌, ◌≤◌, ℕ, List, length, ap, subst, arith, inl, IfErr}
use Rattle.std.proofs.Math.Path.{subst⁻¹}
use Rattle.std.proofs.lemmas.Result.{err_from_is_err_and, on_ok_weaker}
use Rattle.std.specs.List.{All}
use Rattle.page_spec.specs.Rooms.{IsOneCell, needs}
use Rattle.tree_balance.specs.Cuts.{page_room}
use Rattle.tree_spec.specs.Standing.{Sizes}
use Rattle.tree_spec.specs.Worlds.{IsFree}
use Rattle.tree_pages.specs.Takes.{IsShort, RisesBy}
use Rattle.tree_pages.specs.TakesLaws.{rises-then, short-more}
use Rattle.tree_pages.specs.Writers.{Becomes, paged, sizes_of}
use Rattle.tree_pages.specs.WritersLaws.{sizes-same}
use Rattle.tree_level.specs.Changes.{ChangesRoot}
use Rattle.tree_index.specs.Needs.{overflow_pages}
use Rattle.tree_index.specs.Puts.{inserting}
use Rattle.tree_index.proofs.Entering.{cell-fits, one-cell}
use Rattle.tree_index.proofs.Needed.{chain-result}
use Rattle.tree_index.proofs.putting.enter_leaf_root.Goals as goal

pub change_root-requires-clause-comes : goal.change_root-requires-clause-comes
change_root-requires-clause-comes g c =
    let S = g.S.PageRead in
    let a = c.args.store.now in
    let s = c.make_cell.new.store in
    let z = sizes_of S a in
    let page = c.args.page in
    let payload = c.args.payload.now in
    let mk = c.in_ok-cell.ensures in
    let cell = c.in_ok-cell.cell in
    let comes = c.in_ok-comes.comes.items in
    let one : sizes_of S s ≡ z = sizes-same S a s mk.owes.stays in
    let all : All (IsOneCell page.kind (S.usable s)) comes =
    subst⁻¹ (λ (u : ℕ). All (IsOneCell page.kind u) comes) mk.owes.stays.usable (one-cell (S.usable a) cell comes page.kind c.requires.kind mk.cell c.in_ok-comes.ensures) in
    all

pub change_root-requires-clause-few : goal.change_root-requires-clause-few
change_root-requires-clause-few g c =
    let S = g.S.PageRead in
    let a = c.args.store.now in
    let s = c.make_cell.new.store in
    let z = sizes_of S a in
    let page = c.args.page in
    let payload = c.args.payload.now in
    let mk = c.in_ok-cell.ensures in
    let cell = c.in_ok-cell.cell in
    let comes = c.in_ok-comes.comes.items in
    let one : sizes_of S s ≡ z = sizes-same S a s mk.owes.stays in
    let low : needs comes ≤ page_room page.kind (S.usable s) =
    subst⁻¹ (λ (u : ℕ). needs comes ≤ page_room page.kind u) mk.owes.stays.usable
    (cell-fits (S.usable a) comes page.kind c.requires.sizes.usable (one-cell (S.usable a) cell comes page.kind c.requires.kind mk.cell c.in_ok-comes.ensures) (omega (arith, ap length c.in_ok-comes.ensures))) in
    low

pub returns-clause-enters : goal.returns-clause-enters
returns-clause-enters g c =
    let S = g.S.PageRead in
    let a = c.args.store.now in
    let s = c.make_cell.new.store in
    let v = c.change_root.new.store in
    let z = sizes_of S a in
    let page = c.args.page in
    let payload = c.args.payload.now in
    let mk = c.in_ok-cell.ensures in
    let cell = c.in_ok-cell.cell in
    let comes = c.in_ok-comes.comes.items in
    let one : sizes_of S s ≡ z = sizes-same S a s mk.owes.stays in
    on_ok_weaker c.change_root.result
    (λ (changed : Becomes S s v (ChangesRoot (sizes_of S s) page (inserting page c.args.at) comes)). λ old told.
    let n = mk.made old told in
    let k = changed n.0 n.1 in
    let y = paged S s n.0 in
    let w = paged S v k.0 in (
      k.0,
      k.1,
      (
        cell,
        y,
        n.2,
        subst (λ (l : List (List ℕ)). ChangesRoot z page (inserting page c.args.at) l y w) c.in_ok-comes.ensures (subst (λ (m : Sizes). ChangesRoot m page (inserting page c.args.at) comes y w) one k.2),
      ),
    )) c.change_root.ensures.changed

pub returns-clause-rises : goal.returns-clause-rises
returns-clause-rises g c =
    let S = g.S.PageRead in
    let a = c.args.store.now in
    let s = c.make_cell.new.store in
    let v = c.change_root.new.store in
    let z = sizes_of S a in
    let page = c.args.page in
    let payload = c.args.payload.now in
    let mk = c.in_ok-cell.ensures in
    let cell = c.in_ok-cell.cell in
    let comes = c.in_ok-comes.comes.items in
    let one : sizes_of S s ≡ z = sizes-same S a s mk.owes.stays in
    let chain = overflow_pages (S.usable a) (length payload) in
    on_ok_weaker c.change_root.result (λ (rises : RisesBy S 3 s v). let all = rises-then S a s v chain 3 mk.owes.stays.size mk.rises rises in omega (arith, all)) c.change_root.ensures.rises

pub returns-clause-refuses : goal.returns-clause-refuses
returns-clause-refuses g c = λ m trunks told free.
    let S = g.S.PageRead in
    let a = c.args.store.now in
    let s = c.make_cell.new.store in
    let v = c.change_root.new.store in
    let z = sizes_of S a in
    let page = c.args.page in
    let payload = c.args.payload.now in
    let mk = c.in_ok-cell.ensures in
    let cell = c.in_ok-cell.cell in
    let comes = c.in_ok-comes.comes.items in
    let one : sizes_of S s ≡ z = sizes-same S a s mk.owes.stays in
    let n = mk.made m told in
    let x = paged S a m in
    let y = paged S s n.0 in
    chain-result z payload cell 3 c.args.limit (S.count v) x y c.change_root.result n.2 mk.most
    (λ rest kept. subst (λ (k : Sizes). IfErr c.change_root.result (IsShort k 3 c.args.limit y rest (S.count v))) one (c.change_root.ensures.refuses n.0 rest n.1 (subst⁻¹ (λ (k : Sizes). IsFree k y rest) one kept)))
    trunks free

pub returns-in_err-cell-clause-refuses : goal.returns-in_err-cell-clause-refuses
returns-in_err-cell-clause-refuses g c = λ m trunks told free.
    let S = g.S.PageRead in
    let a = c.args.store.now in
    let chain = overflow_pages (S.usable a) (length c.args.payload.now) in
    let p = err_from_is_err_and c.from_residual.result c.from_residual.ensures.1 in
    rw (p.1, p.2)
    (short-more (sizes_of S a) c.args.limit (S.count c.make_cell.new.store) c.in_err-cell.field-0.0 (paged S a m) trunks chain (3 + chain) (omega arith) (c.in_err-cell.ensures.refuses m trunks told free))

pub returns-in_err-comes-clause-refuses : goal.returns-in_err-comes-clause-refuses
returns-in_err-comes-clause-refuses g c = λ m trunks told free.
    let p = err_from_is_err_and c.from_residual-in_err-comes.result c.from_residual-in_err-comes.ensures.1 in
    rw (p.1, p.2) (inl tt)
