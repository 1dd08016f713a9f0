use Rattle.std.proofs.Common.{refl, sym, inl, [], ◌∷◌}
use Rattle.std.proofs.lemmas.Result.{err_from_is_err_and}
use Rattle.tree_spec.specs.Changes.{Within}
use Rattle.page_spec.specs.Counts.{hit}
use Rattle.tree_level.specs.Changes.{ChangesAt}
use Rattle.index_delete.specs.UsesLaws.{always, free-read, joined-uses, gives-short, trunks-same}
use Rattle.index_delete.proofs.Readings.{spelled-all}
use Rattle.std.proofs.Common.{◌≡◌, ℕ, ◌+◌, false, length, ap, ◌∙◌, subst, arith}
use Rattle.std.proofs.Math.Path.{subst⁻¹}
use Rattle.std.specs.List.{All}
use Rattle.format_spec.specs.declared.PageKind.{PageKind}
use Rattle.format_spec.specs.declared.PageKind.TheVariants.{IndexInterior}
use Rattle.format_spec.specs.Sizes.{IsUsable}
use Rattle.page_spec.specs.Rooms.{IsOneCell}
use Rattle.tree_spec.specs.Standing.{Sizes}
use Rattle.put_spec.specs.Steps.{Releases}
use Rattle.tree_pages.specs.TakesLaws.{rises-read}
use Rattle.tree_pages.specs.Writers.{paged, sizes_of}
use Rattle.tree_pages.specs.WritersLaws.{sizes-same}
use Rattle.tree_level.specs.declared.cells.Change.{Change}
use Rattle.tree_level.specs.Changes.{Changes}
use Rattle.tree_level.specs.Levels.{above_kind}
use Rattle.index_delete_spec.specs.Steps.{IsOfIndex}
use Rattle.index_delete.proofs.Closings.{leaf-right}
use Rattle.index_delete.proofs.Openings.{next-joins-any, next-replaced}
use Rattle.index_delete.proofs.Readings.{above-index, cells-fit, once-there, whole-long}
use Rattle.index_delete.proofs.joining.join_next.Goals as goal

pub spell_once-requires : goal.spell_once-requires
spell_once-requires g c = whole-long (g.S.PageRead.usable c.args.store.now) c.args.between.now c.requires.of c.requires.between

pub change_page-requires-clause-comes : goal.change_page-requires-clause-comes
change_page-requires-clause-comes g c =
    let S = g.S.PageRead in
    let u = c.in_ok-give_page.ensures.owes.stays.usable ∙ c.in_ok-beside.ensures.owes.stays.usable in
    let items = c.in_ok-middle.middle.items in
    let all = once-there (S.usable c.args.store.now) c.args.between.now c.args.emptied.kind c.args.emptied.only items c.in_ok-middle.ensures.cells c.requires.of c.requires.fit c.requires.between in
    subst⁻¹ (λ (k : PageKind). All (IsOneCell k (S.usable c.give_page.new.store)) items) c.in_ok-beside.ensures.kind (subst⁻¹ (λ (n : ℕ). All (IsOneCell c.args.emptied.kind n) items) u all)

pub returns-clause-comes : goal.returns-clause-comes
returns-clause-comes g c =
    let S = g.S.PageRead in
    let t = c.give_page.new.store in
    let comes = c.in_ok-comes.comes.items in
    subst (λ (u : ℕ). All (IsOneCell IndexInterior u) comes) (c.in_ok-give_page.ensures.owes.stays.usable ∙ c.in_ok-beside.ensures.owes.stays.usable)
    (subst (λ (k : PageKind). All (IsOneCell k (S.usable t)) comes) (ap above_kind c.in_ok-beside.ensures.kind ∙ above-index c.args.emptied.kind c.requires.fit) c.in_ok-comes.ensures.dividers)

pub returns-clause-few : goal.returns-clause-few
returns-clause-few g c =
    let S = g.S.PageRead in
    let t = c.give_page.new.store in
    let kind = c.in_ok-beside.ensures.kind in
    let beside = c.in_ok-beside.beside in
    let items = c.in_ok-middle.middle.items in
    let u : S.usable t ≡ S.usable c.args.store.now = c.in_ok-give_page.ensures.owes.stays.usable ∙ c.in_ok-beside.ensures.owes.stays.usable in
    let fits : IsUsable (S.usable t) = subst⁻¹ IsUsable u c.requires.sizes.usable in
    let all = once-there (S.usable c.args.store.now) c.args.between.now c.args.emptied.kind c.args.emptied.only items c.in_ok-middle.ensures.cells c.requires.of c.requires.fit c.requires.between in
    let here = subst⁻¹ (λ (k : PageKind). All (IsOneCell k (S.usable t)) items) kind (subst⁻¹ (λ (n : ℕ). All (IsOneCell c.args.emptied.kind n) items) u all) in
    let of = subst⁻¹ (λ (k : PageKind). IsOfIndex k) kind c.requires.fit in
    c.in_ok-comes.ensures.few (cells-fit beside.kind (S.usable t) items of fits here (omega (arith, ap length c.in_ok-middle.ensures.cells)))

pub returns-clause-rises : goal.returns-clause-rises
returns-clause-rises g c =
    let S = g.S.PageRead in
    let be = c.in_ok-beside.ensures in
    let given = c.in_ok-give_page.ensures in
    rises-read S (length c.in_ok-comes.comes.items) c.args.store.now c.give_page.new.store c.change_page.new.store (given.owes.stays.size ∙ be.owes.stays.size) (given.count ∙ be.count) c.in_ok-comes.ensures.rises

pub returns-clause-opened : goal.returns-clause-opened
returns-clause-opened g c = λ is_between old told.
    let S = g.S.PageRead in
    let a = c.args.store.now in
    let s = c.read_beside.new.store in
    let t = c.give_page.new.store in
    let v = c.change_page.new.store in
    let z = sizes_of S a in
    let page = c.args.page.now in
    let step = c.args.step in
    let emptied = c.args.emptied in
    let between = c.args.between.now in
    let be = c.in_ok-beside.ensures in
    let beside = c.in_ok-beside.beside in
    let middle = c.in_ok-middle.middle.items in
    let comes = c.in_ok-comes.comes.items in
    let one : sizes_of S s ≡ z = sizes-same S a s be.owes.stays in
    let two : sizes_of S t ≡ z = sizes-same S s t c.in_ok-give_page.ensures.owes.stays ∙ one in
    let n = c.in_ok-give_page.ensures.released old (be.same ∙ told) in
    let k = c.in_ok-comes.ensures.changed n.0 n.1 in
    let x = paged S a old in
    let y = paged S t n.0 in
    let w = paged S v k.0 in
    let gives : Releases z step.child x y = subst (λ (n : ℕ). Releases z step.child (record { count = n; pages = old }) y) be.count (subst (λ (m : Sizes). Releases m step.child (paged S s old) y) one n.2) in
    let front : Change = record { at = 0; goes = false; right = beside.right } in
    let changes : Changes z beside front middle comes y w = subst (λ (m : Sizes). Changes m beside front middle comes y w) two k.2 in (
      k.0,
      k.1,
      λ ends row base there last_goes leaves.
          next-joins-any z page c.requires.kind step.at step.child c.requires.child base there emptied.kind c.requires.fit emptied.only x y w beside be.read be.kind (be.there old told) middle comes between c.requires.of c.requires.between
          c.requires.at (step.at + 1) (omega arith) be.child c.in_ok-middle.ensures.small c.in_ok-middle.ensures.cells (λ leaf. leaf-right z.usable beside be.read (be.kind ∙ leaf)) gives changes ends row last_goes is_between leaves,
    )

pub returns-clause-replaced : goal.returns-clause-replaced
returns-clause-replaced g c = λ old told.
    let S = g.S.PageRead in
    let a = c.args.store.now in
    let s = c.read_beside.new.store in
    let t = c.give_page.new.store in
    let v = c.change_page.new.store in
    let z = sizes_of S a in
    let page = c.args.page.now in
    let step = c.args.step in
    let emptied = c.args.emptied in
    let between = c.args.between.now in
    let be = c.in_ok-beside.ensures in
    let beside = c.in_ok-beside.beside in
    let middle = c.in_ok-middle.middle.items in
    let comes = c.in_ok-comes.comes.items in
    let one : sizes_of S s ≡ z = sizes-same S a s be.owes.stays in
    let two : sizes_of S t ≡ z = sizes-same S s t c.in_ok-give_page.ensures.owes.stays ∙ one in
    let n = c.in_ok-give_page.ensures.released old (be.same ∙ told) in
    let k = c.in_ok-comes.ensures.changed n.0 n.1 in
    let x = paged S a old in
    let y = paged S t n.0 in
    let w = paged S v k.0 in
    let gives : Releases z step.child x y = subst (λ (n : ℕ). Releases z step.child (record { count = n; pages = old }) y) be.count (subst (λ (m : Sizes). Releases m step.child (paged S s old) y) one n.2) in
    let front : Change = record { at = 0; goes = false; right = beside.right } in
    let changes : Changes z beside front middle comes y w = subst (λ (m : Sizes). Changes m beside front middle comes y w) two k.2 in (
      k.0,
      k.1,
      λ gone base there is_gone leaves.
          next-replaced z page c.requires.kind step.at step.child c.requires.child base there emptied.kind c.requires.fit emptied.only x y w beside be.read be.kind (be.there old told) middle comes between c.requires.of c.requires.between
          c.requires.at (step.at + 1) (omega arith) be.child c.in_ok-middle.ensures.small c.in_ok-middle.ensures.cells (λ leaf. leaf-right z.usable beside be.read (be.kind ∙ leaf)) gives changes gone is_gone leaves,
    )

pub returns-in_err-beside-clause-refuses : goal.returns-in_err-beside-clause-refuses
returns-in_err-beside-clause-refuses g c = λ m trunks told near.
    let b = near.beside c.args.emptied refl (c.args.step.at + 1) (inl (omega arith)) (omega (arith, c.requires.at)) in
    let p = err_from_is_err_and c.from_residual.result c.from_residual.ensures.1 in
    rw (p.1, p.2) (inl (c.in_err-beside.ensures.refuses m told b.levels b.tree b.page_is b.kind_is b.stands b.in_range))

pub returns-in_err-give_page-clause-refuses : goal.returns-in_err-give_page-clause-refuses
returns-in_err-give_page-clause-refuses g c = λ m trunks told near.
    let S = g.S.PageRead in
    let a = c.args.store.now in
    let s = c.read_beside.new.store in
    let z = sizes_of S a in
    let be = c.in_ok-beside.ensures in
    let one : sizes_of S s ≡ z = sizes-same S a s be.owes.stays in
    let p = err_from_is_err_and c.from_residual-in_err-give_page.result c.from_residual-in_err-give_page.ensures.1 in
    rw (p.1, p.2) (inl (c.in_err-give_page.ensures.sound m trunks (be.same ∙ told) (free-read S m trunks a s one be.count near.free)))

pub returns-in_err-comes-clause-refuses : goal.returns-in_err-comes-clause-refuses
returns-in_err-comes-clause-refuses g c = λ m trunks told near.
    let S = g.S.PageRead in
    let a = c.args.store.now in
    let s = c.read_beside.new.store in
    let t = c.give_page.new.store in
    let z = sizes_of S a in
    let kind = c.in_ok-beside.ensures.kind in
    let be = c.in_ok-beside.ensures in
    let beside = c.in_ok-beside.beside in
    let items = c.in_ok-middle.middle.items in
    let given = c.in_ok-give_page.ensures in
    let b = near.beside c.args.emptied refl (c.args.step.at + 1) (inl (omega arith)) (omega (arith, c.requires.at)) in
    let one : sizes_of S s ≡ z = sizes-same S a s be.owes.stays in
    let two : sizes_of S t ≡ z = sizes-same S s t given.owes.stays ∙ one in
    let u : S.usable t ≡ S.usable a = given.owes.stays.usable ∙ be.owes.stays.usable in
    let fits : IsUsable (S.usable t) = subst⁻¹ IsUsable u c.requires.sizes.usable in
    let all = once-there (S.usable a) c.args.between.now c.args.emptied.kind c.args.emptied.only items c.in_ok-middle.ensures.cells c.requires.of c.requires.fit c.requires.between in
    let here = subst⁻¹ (λ (k : PageKind). All (IsOneCell k (S.usable t)) items) kind (subst⁻¹ (λ (n : ℕ). All (IsOneCell c.args.emptied.kind n) items) u all) in
    let of = subst⁻¹ (λ (k : PageKind). IsOfIndex k) kind c.requires.fit in
    let once = cells-fit beside.kind (S.usable t) items of fits here (omega (arith, ap length c.in_ok-middle.ensures.cells)) in
    let n = given.released m (be.same ∙ told) in
    let x = paged S a m in
    let y = paged S t n.0 in
    let fault = c.in_err-comes.field-0.0 in
    let limit = c.args.limit in
    let count = S.count c.change_page.new.store in
    let gone = c.args.step.child in
    let gives : Releases z gone x y = subst (λ (n : ℕ). Releases z gone (record { count = n; pages = m }) y) be.count (subst (λ (q : Sizes). Releases q gone (paged S s m) y) one n.2) in
    let short = trunks-same (sizes_of S t) z 2 limit (S.count t) (S.count t) count n.0 fault two refl (λ ts free. c.in_err-comes.ensures.refuses once n.0 ts n.1 free) in
    let hand : Within z x (gone ∷ []) trunks = λ n. omega (arith, b.within n, ap (λ (q : ℕ). hit q n) be.named) in
    let p = err_from_is_err_and c.from_residual-in_err-comes.result c.from_residual-in_err-comes.ensures.1 in
    rw (p.1, p.2) (gives-short z gone x y gives trunks near.free hand 2 limit count fault (given.count ∙ be.count) short)

pub returns-clause-uses : goal.returns-clause-uses
returns-clause-uses g c = λ old told new later trunks near.
    let S = g.S.PageRead in
    let a = c.args.store.now in
    let s = c.read_beside.new.store in
    let t = c.give_page.new.store in
    let v = c.change_page.new.store in
    let z = sizes_of S a in
    let kind = c.in_ok-beside.ensures.kind in
    let be = c.in_ok-beside.ensures in
    let beside = c.in_ok-beside.beside in
    let items = c.in_ok-middle.middle.items in
    let comes = c.in_ok-comes.comes.items in
    let given = c.in_ok-give_page.ensures in
    let b = near.beside c.args.emptied refl (c.args.step.at + 1) (inl (omega arith)) (omega (arith, c.requires.at)) in
    let one : sizes_of S s ≡ z = sizes-same S a s be.owes.stays in
    let two : sizes_of S t ≡ z = sizes-same S s t given.owes.stays ∙ one in
    let all = once-there (S.usable a) c.args.between.now c.args.emptied.kind c.args.emptied.only items c.in_ok-middle.ensures.cells c.requires.of c.requires.fit c.requires.between in
    let here = subst⁻¹ (λ (k : PageKind). All (IsOneCell k z.usable) items) kind all in
    let n = given.released old (be.same ∙ told) in
    let x = paged S a old in
    let y = paged S t n.0 in
    let w = paged S v new in
    let gone = c.args.step.child in
    let home = beside.number in
    let gives : Releases z gone x y = subst (λ (n : ℕ). Releases z gone (record { count = n; pages = old }) y) be.count (subst (λ (q : Sizes). Releases q gone (paged S s old) y) one n.2) in
    let change : Change = record { at = 0; goes = false; right = beside.right } in
    let changes : ChangesAt z home beside change items comes y w =
    subst (λ (q : Sizes). ChangesAt q home beside change items comes y w) two (always S (ChangesAt (sizes_of S t) home beside change items comes) t v c.in_ok-comes.ensures.changed n.0 n.1 new later) in
    let hand : Within z x (gone ∷ []) trunks = λ n. omega (arith, b.within n, ap (λ (q : ℕ). hit q n) be.named) in
    let both : Within z x (home ∷ gone ∷ []) trunks = λ n. omega (arith, b.within n, ap (λ (q : ℕ). hit q n) be.named) in
    joined-uses z gone x y gives trunks near.free hand beside home b.levels change items comes w be.read (b.kind_is ∙ sym kind) (spelled-all beside.kind z.usable items here) changes both
