use Rattle.std.proofs.Common.{◌≤◌, [], ◌∷◌, sym, ap, refl, inl}
use Rattle.std.proofs.lemmas.Result.{err_from_is_err_and}
use Rattle.page_spec.specs.Counts.{hit}
use Rattle.tree_spec.specs.Changes.{Within}
use Rattle.tree_pages.specs.UsesLaws.{uses-more, uses-then}
use Rattle.tree_level.specs.Changes.{ChangesAt}
use Rattle.tree_table.proofs.Needed.{trunks-same}
use Rattle.tree_table.proofs.Used.{always, free-read, changes-use, changes-free, gives-open, gives-within, gives-short}
use Rattle.std.proofs.Common.{◌≡◌, ℕ, ◌+◌, false, ◌∙◌, subst, arith, length}
use Rattle.std.proofs.Math.Path.{subst⁻¹}
use Rattle.std.specs.List.{All}
use Rattle.format_spec.specs.declared.PageKind.{PageKind}
use Rattle.format_spec.specs.declared.PageKind.TheVariants.{TableInterior}
use Rattle.format_spec.specs.Sizes.{IsUsable}
use Rattle.page_spec.specs.Rooms.{IsOneCell}
use Rattle.tree_spec.specs.Standing.{Sizes}
use Rattle.put_spec.specs.Steps.{Releases}
use Rattle.tree_pages.specs.Writers.{paged, sizes_of}
use Rattle.tree_pages.specs.WritersLaws.{sizes-same}
use Rattle.tree_level.specs.declared.cells.Change.{Change}
use Rattle.tree_level.specs.Changes.{Changes}
use Rattle.tree_level.specs.Levels.{above_kind}
use Rattle.tree_table.proofs.Openings.{key-once, key-one, next-joins}
use Rattle.tree_pages.specs.TakesLaws.{rises-read}
use Rattle.tree_table.proofs.joining.join_next.Goals as goal

pub change_page-requires-clause-comes : goal.change_page-requires-clause-comes
change_page-requires-clause-comes g c = key-one _ c.args.page.now _ _ c.in_ok-middle.middle.items c.in_ok-beside.beside.kind c.in_ok-beside.ensures.kind c.in_ok-middle.ensures

pub returns-clause-comes : goal.returns-clause-comes
returns-clause-comes g c =
    let S = g.S.PageRead in
    let t = c.give_page.new.store in
    let comes = c.in_ok-comes.comes.items in
    subst (λ (u : ℕ). All (IsOneCell TableInterior u) comes) (c.in_ok-give_page.ensures.owes.stays.usable ∙ c.in_ok-beside.ensures.owes.stays.usable)
    (subst (λ (k : PageKind). All (IsOneCell (above_kind k) (S.usable t)) comes) c.in_ok-beside.ensures.kind c.in_ok-comes.ensures.dividers)

pub returns-clause-few : goal.returns-clause-few
returns-clause-few g c =
    let S = g.S.PageRead in
    let t = c.give_page.new.store in
    let fits : IsUsable (S.usable t) = subst⁻¹ IsUsable (c.in_ok-give_page.ensures.owes.stays.usable ∙ c.in_ok-beside.ensures.owes.stays.usable) c.requires.sizes.usable in
    c.in_ok-comes.ensures.one c.in_ok-beside.ensures.kind (key-once (S.usable t) c.args.page.now _ _ c.in_ok-middle.middle.items c.in_ok-beside.beside.kind c.in_ok-beside.ensures.kind fits c.in_ok-middle.ensures)

pub returns-clause-opened : goal.returns-clause-opened
returns-clause-opened g c = λ old told.
    let S = g.S.PageRead in
    let a = c.args.store.now in
    let s = c.read_neighbour.new.store in
    let t = c.give_page.new.store in
    let v = c.change_page.new.store in
    let z = sizes_of S a in
    let page = c.args.page.now in
    let step = c.args.step in
    let be = c.in_ok-beside.ensures in
    let beside = c.in_ok-beside.beside in
    let middle = c.in_ok-middle.middle.items in
    let comes = c.in_ok-comes.comes.items in
    let one : sizes_of S s ≡ z = sizes-same S a s be.owes.stays in
    let two : sizes_of S t ≡ z = sizes-same S s t c.in_ok-give_page.ensures.owes.stays ∙ one in
    let n = c.in_ok-give_page.ensures.released old (be.same ∙ told) in
    let k = c.in_ok-comes.ensures.changed n.0 n.1 in
    let x = paged S a old in
    let y = paged S t n.0 in
    let w = paged S v k.0 in
    let gives : Releases z step.child x y = subst (λ (n : ℕ). Releases z step.child (record { count = n; pages = old }) y) be.count (subst (λ (m : Sizes). Releases m step.child (paged S s old) y) one n.2) in
    let front : Change = record { at = 0; goes = false; right = beside.right } in
    let changes : Changes z beside front middle comes y w = subst (λ (m : Sizes). Changes m beside front middle comes y w) two k.2 in (
      k.0,
      k.1,
      λ rowid row base there leaves.
          next-joins z page c.requires.page c.requires.kind step.at step.child c.requires.child rowid row base there c.args.only_child x y w leaves beside be.read be.kind (be.there old told) middle comes c.requires.at (step.at + 1) (omega arith)
          be.child c.in_ok-middle.ensures gives changes,
    )

pub returns-clause-rises : goal.returns-clause-rises
returns-clause-rises g c =
    let S = g.S.PageRead in
    let a = c.args.store.now in
    let t = c.give_page.new.store in
    let be = c.in_ok-beside.ensures in
    let given = c.in_ok-give_page.ensures in
    let fits : IsUsable (S.usable t) = subst⁻¹ IsUsable (given.owes.stays.usable ∙ be.owes.stays.usable) c.requires.sizes.usable in
    let few = c.in_ok-comes.ensures.one be.kind (key-once (S.usable t) c.args.page.now _ _ c.in_ok-middle.middle.items c.in_ok-beside.beside.kind be.kind fits c.in_ok-middle.ensures) in
    omega (arith, few, rises-read S (length c.in_ok-comes.comes.items) a t c.change_page.new.store (given.owes.stays.size ∙ be.owes.stays.size) (given.count ∙ be.count) c.in_ok-comes.ensures.rises)

pub returns-in_err-beside-clause-refuses : goal.returns-in_err-beside-clause-refuses
returns-in_err-beside-clause-refuses g c = λ m trunks told near.
    let S = g.S.PageRead in
    let a = c.args.store.now in
    let s = c.read_neighbour.new.store in
    let z = sizes_of S a in
    let child = c.args.step.child in
    let page = c.args.page.now in
    let b = near.beside c.args.only_child refl (c.args.step.at + 1) (inl (omega arith)) (omega (arith, c.requires.at)) in
    let p = err_from_is_err_and c.from_residual.result c.from_residual.ensures.1 in
    rw (p.1, p.2) (inl (c.in_err-beside.ensures.refuses m told b.levels b.tree b.page_is b.kind_is b.stands b.in_range))

pub returns-in_err-give_page-clause-refuses : goal.returns-in_err-give_page-clause-refuses
returns-in_err-give_page-clause-refuses g c = λ m trunks told near.
    let S = g.S.PageRead in
    let a = c.args.store.now in
    let s = c.read_neighbour.new.store in
    let z = sizes_of S a in
    let child = c.args.step.child in
    let page = c.args.page.now in
    let be = c.in_ok-beside.ensures in
    let one : sizes_of S s ≡ z = sizes-same S a s be.owes.stays in
    let p = err_from_is_err_and c.from_residual-in_err-give_page.result c.from_residual-in_err-give_page.ensures.1 in
    rw (p.1, p.2) (inl (c.in_err-give_page.ensures.sound m trunks (be.same ∙ told) (free-read S m trunks a s one be.count near.free)))

pub returns-in_err-comes-clause-refuses : goal.returns-in_err-comes-clause-refuses
returns-in_err-comes-clause-refuses g c = λ m trunks told near.
    let S = g.S.PageRead in
    let a = c.args.store.now in
    let s = c.read_neighbour.new.store in
    let z = sizes_of S a in
    let child = c.args.step.child in
    let page = c.args.page.now in
    let b = near.beside c.args.only_child refl (c.args.step.at + 1) (inl (omega arith)) (omega (arith, c.requires.at)) in
    let t = c.give_page.new.store in
    let be = c.in_ok-beside.ensures in
    let beside = c.in_ok-beside.beside in
    let middle = c.in_ok-middle.middle.items in
    let given = c.in_ok-give_page.ensures in
    let one : sizes_of S s ≡ z = sizes-same S a s be.owes.stays in
    let two : sizes_of S t ≡ z = sizes-same S s t given.owes.stays ∙ one in
    let fits : IsUsable (S.usable t) = subst⁻¹ IsUsable (given.owes.stays.usable ∙ be.owes.stays.usable) c.requires.sizes.usable in
    let n = given.released m (be.same ∙ told) in
    let x = paged S a m in
    let y = paged S t n.0 in
    let fault = c.in_err-comes.field-0.0 in
    let limit = c.args.limit in
    let count = S.count c.change_page.new.store in
    let gives : Releases z child x y = subst (λ (n : ℕ). Releases z child (record { count = n; pages = m }) y) be.count (subst (λ (q : Sizes). Releases q child (paged S s m) y) one n.2) in
    let once = key-once (S.usable t) page _ _ middle beside.kind be.kind fits c.in_ok-middle.ensures in
    let short = trunks-same (sizes_of S t) z 2 limit (S.count t) (S.count t) count n.0 fault two refl (λ ts free. c.in_err-comes.ensures.refuses (omega (arith, once)) n.0 ts n.1 free) in
    let hand : Within z x (child ∷ []) trunks = λ n. omega (arith, near.within n) in
    let p = err_from_is_err_and c.from_residual-in_err-comes.result c.from_residual-in_err-comes.ensures.1 in
    rw (p.1, p.2)
    (gives-short z child x y gives trunks near.free hand 2 limit count fault (given.count ∙ be.count) short)

pub returns-clause-uses : goal.returns-clause-uses
returns-clause-uses g c = λ old told new later trunks near.
    let S = g.S.PageRead in
    let a = c.args.store.now in
    let s = c.read_neighbour.new.store in
    let z = sizes_of S a in
    let child = c.args.step.child in
    let page = c.args.page.now in
    let b = near.beside c.args.only_child refl (c.args.step.at + 1) (inl (omega arith)) (omega (arith, c.requires.at)) in
    let t = c.give_page.new.store in
    let v = c.change_page.new.store in
    let be = c.in_ok-beside.ensures in
    let beside = c.in_ok-beside.beside in
    let middle = c.in_ok-middle.middle.items in
    let comes = c.in_ok-comes.comes.items in
    let given = c.in_ok-give_page.ensures in
    let one : sizes_of S s ≡ z = sizes-same S a s be.owes.stays in
    let two : sizes_of S t ≡ z = sizes-same S s t given.owes.stays ∙ one in
    let n = given.released old (be.same ∙ told) in
    let x = paged S a old in
    let y = paged S t n.0 in
    let w = paged S v new in
    let gives : Releases z child x y = subst (λ (n : ℕ). Releases z child (record { count = n; pages = old }) y) be.count (subst (λ (q : Sizes). Releases q child (paged S s old) y) one n.2) in
    let change : Change = record { at = 0; goes = false; right = beside.right } in
    let changes : ChangesAt z c.in_ok-beside.beside.number beside change middle comes y w =
    subst (λ (q : Sizes). ChangesAt q c.in_ok-beside.beside.number beside change middle comes y w) two (always S (ChangesAt (sizes_of S t) c.in_ok-beside.beside.number beside change middle comes) t v c.in_ok-comes.ensures.changed n.0 n.1 new later) in
    let hand : Within z x (child ∷ []) trunks = λ n. omega (arith, near.within n) in
    let both : Within z x (c.in_ok-beside.beside.number ∷ child ∷ []) trunks = λ n. omega (arith, b.within n, ap (λ (q : ℕ). hit q n) be.named) in
    let o = gives-within z child x y gives trunks near.free hand c.in_ok-beside.beside.number both in
    let e = gives-open z child x y gives trunks near.free hand in
    let all = key-one z.usable page _ _ middle beside.kind be.kind c.in_ok-middle.ensures in
    let few : length comes ≤ 1 = returns-clause-few g c in
    let f = changes-free z beside c.in_ok-beside.beside.number 1 change middle comes y w be.read (sym be.kind) all changes o.0 o.1 o.2 in
    let u = changes-use z beside c.in_ok-beside.beside.number 1 change middle comes y w be.read (sym be.kind) all changes o.0 o.1 in (
      f.0,
      f.1,
      uses-more z x w (0 + length comes) 1 (omega (arith, few)) (uses-then z x y w 0 (length comes) e.2 u),
    )
