use Rattle.std.proofs.Common.{refl, inl}
use Rattle.std.proofs.Math.Path.{subst⁻¹}
use Rattle.std.proofs.lemmas.Result.{err_from_is_err_and, IfErr-weaker}
use Rattle.tree_spec.specs.Worlds.{IsFree}
use Rattle.tree_level.specs.ChangesLaws.{spelled-read}
use Rattle.index_delete.proofs.Refused.{hand-written}
use Rattle.std.proofs.Common.{◌≡◌, ℕ, Bool, true, ap, ◌∙◌, subst, arith}
use Rattle.std.proofs.lemmas.Result.{on_ok_weaker}
use Rattle.page_spec.specs.FreePages.{due_pages}
use Rattle.tree_spec.specs.Standing.{Sizes, Paged}
use Rattle.put_spec.specs.Steps.{Releases}
use Rattle.tree_pages.specs.TakesLaws.{rises-read}
use Rattle.tree_pages.specs.Writers.{paged, sizes_of}
use Rattle.tree_pages.specs.WritersLaws.{sizes-same}
use Rattle.tree_level.specs.Changes.{ChangesRoot, MovesTo}
use Rattle.index_delete.proofs.Rootings.{first-closes, takes-child}
use Rattle.index_delete.proofs.rooting.take_only_child.Goals as goal

pub returns-then-moved-clause-closes : goal.returns-then-moved-clause-closes
returns-then-moved-clause-closes g c =
    let S = g.S.PageRead in
    let a = c.args.store.now in
    let s = c.read_only.new.store in
    let t = c.move_cells.new.store in
    let z = sizes_of S a in
    let page = c.args.page in
    let change = c.args.opened.change in
    let ch = c.in_ok-child.ensures in
    let child = c.in_ok-child.child in
    let one : sizes_of S s ≡ z = sizes-same S a s ch.owes.stays in
    let two : sizes_of S t ≡ z = sizes-same S s t c.in_ok-moved.ensures.owes.stays ∙ one in
    on_ok_weaker c.give_page.result (λ released. λ old told.
    let n = c.in_ok-moved.ensures.moved old (ch.same ∙ told) in
    let k = released n.0 n.1 in
    let x = paged S a old in
    let y = paged S t n.0 in
    let w = paged S c.give_page.new.store k.0 in
    let moves : MovesTo z child page.number true x y =
    subst (λ (b : Bool). MovesTo z child page.number b x y) c.if-moved.true
    (subst (λ (n : ℕ). MovesTo z child page.number c.in_ok-moved.moved (record { count = n; pages = old }) y) ch.count (subst (λ (m : Sizes). MovesTo m child page.number c.in_ok-moved.moved (paged S s old) y) one n.2)) in
    let gives : Releases z change.right y w = subst (λ (m : Sizes). Releases m change.right y w) two k.2 in (
      k.0,
      k.1,
      λ row base there opens.
          takes-child z page c.requires.page base there c.requires.kind row change c.args.opened.comes.items x c.requires.within c.requires.comes opens c.requires.emptied.0 c.requires.emptied.1 child ch.number ch.read
          (ch.there old told) ch.kind y w moves gives,
    )) c.give_page.ensures.released

pub returns-clause-closes : goal.returns-clause-closes
returns-clause-closes g c =
    let S = g.S.PageRead in
    let a = c.args.store.now in
    let s = c.read_only.new.store in
    let t = c.move_cells.new.store in
    let z = sizes_of S a in
    let page = c.args.page in
    let change = c.args.opened.change in
    let comes = c.args.opened.comes.items in
    let ch = c.in_ok-child.ensures in
    let child = c.in_ok-child.child in
    let one : sizes_of S s ≡ z = sizes-same S a s ch.owes.stays in
    let two : sizes_of S t ≡ z = sizes-same S s t c.in_ok-moved.ensures.owes.stays ∙ one in
    on_ok_weaker c.change_root.result (λ changed. λ old told.
    let n = c.in_ok-moved.ensures.moved old (ch.same ∙ told) in
    let k = changed n.0 n.1 in
    let x = paged S a old in
    let y = paged S t n.0 in
    let w = paged S c.change_root.new.store k.0 in
    let stays : (y ≡ paged S s old) × (page.number ≡ 1) = subst (λ (b : Bool). MovesTo (sizes_of S s) child page.number b (paged S s old) y) c.if-moved.false n.2 in
    let changes : ChangesRoot z page change comes x w =
    subst (λ (n : ℕ). ChangesRoot z page change comes (record { count = n; pages = old }) w) ch.count
    (subst (λ (p : Paged). ChangesRoot z page change comes p w) stays.0 (subst (λ (m : Sizes). ChangesRoot m page change comes y w) two k.2)) in (
      k.0,
      k.1,
      λ row base there opens. first-closes z page c.requires.page base there c.requires.kind row change comes x c.requires.within c.requires.comes opens stays.1 w changes,
    )) c.change_root.ensures.changed

pub returns-then-moved-clause-rises : goal.returns-then-moved-clause-rises
returns-then-moved-clause-rises g c =
    on_ok_weaker c.give_page.result (λ same. omega (arith, ap (due_pages (g.S.PageRead.size c.args.store.now)) (same ∙ c.in_ok-moved.ensures.count ∙ c.in_ok-child.ensures.count))) c.give_page.ensures.count

pub returns-clause-rises : goal.returns-clause-rises
returns-clause-rises g c =
    let ch = c.in_ok-child.ensures in
    let mv = c.in_ok-moved.ensures in
    on_ok_weaker c.change_root.result (rises-read g.S.PageRead 3 c.args.store.now c.move_cells.new.store c.change_root.new.store (mv.owes.stays.size ∙ ch.owes.stays.size) (mv.count ∙ ch.count)) c.change_root.ensures.rises

pub returns-in_err-child-clause-refuses : goal.returns-in_err-child-clause-refuses
returns-in_err-child-clause-refuses g c = λ old trunks told free has.
    let p = err_from_is_err_and c.from_residual.result c.from_residual.ensures.1 in
    rw (p.1, p.2) (inl (c.in_err-child.ensures.refuses _ old told has.levels has.tree has.page_is refl has.stands has.in_range))

pub returns-then-moved-clause-refuses : goal.returns-then-moved-clause-refuses
returns-then-moved-clause-refuses g c = λ old trunks told free has.
    let S = g.S.PageRead in
    let a = c.args.store.now in
    let s = c.read_only.new.store in
    let t = c.move_cells.new.store in
    let z = sizes_of S a in
    let page = c.args.page in
    let ch = c.in_ok-child.ensures in
    let child = c.in_ok-child.child in
    let one : sizes_of S s ≡ z = sizes-same S a s ch.owes.stays in
    let two : sizes_of S t ≡ z = sizes-same S s t c.in_ok-moved.ensures.owes.stays ∙ one in
    let n = c.in_ok-moved.ensures.moved old (ch.same ∙ told) in
    let x = paged S a old in
    let y = paged S t n.0 in
    let moves : MovesTo z child page.number true x y =
    subst (λ (b : Bool). MovesTo z child page.number b x y) c.if-moved.true
    (subst (λ (n : ℕ). MovesTo z child page.number c.in_ok-moved.moved (record { count = n; pages = old }) y) ch.count (subst (λ (m : Sizes). MovesTo m child page.number c.in_ok-moved.moved (paged S s old) y) one n.2)) in
    let read = spelled-read z.usable child ch.read in
    let later : IsFree z y trunks = hand-written z x y trunks page.number has.within (moves read.0 read.1).writes free in
    let here : IsFree (sizes_of S t) y trunks = subst⁻¹ (λ (q : Sizes). IsFree q y trunks) two later in
    IfErr-weaker c.give_page.result _ _ (λ fault other. inl other) (c.give_page.ensures.sound n.0 trunks n.1 here)
