use Rattle.std.proofs.Common.{inr}
use Rattle.std.proofs.Math.Path.{subst⁻¹}
use Rattle.std.proofs.lemmas.Result.{on_ok_weaker}
use Rattle.std.specs.List.{All}
use Rattle.format_spec.specs.declared.PageKind.{PageKind}
use Rattle.page_spec.specs.Rooms.{IsOneCell}
use Rattle.tree_pages.specs.Writers.{paged, sizes_of}
use Rattle.index_delete.proofs.Readings.{cells-fit, none-long}
use Rattle.index_delete.proofs.Rootings.{rooted-closes}
use Rattle.index_delete.proofs.rooting.close_root.Goals as goal

pub change_root-requires-clause-comes : goal.change_root-requires-clause-comes
change_root-requires-clause-comes g c = subst⁻¹ (λ (k : PageKind). All (IsOneCell k (g.S.PageRead.usable c.args.store.now)) c.args.opened.comes.items) c.requires.kind c.requires.comes

pub change_root-requires-clause-few : goal.change_root-requires-clause-few
change_root-requires-clause-few g c =
    let u = g.S.PageRead.usable c.args.store.now in
    let comes = c.args.opened.comes.items in
    cells-fit c.args.page.kind u comes (inr c.requires.kind) c.requires.sizes.usable (subst⁻¹ (λ (k : PageKind). All (IsOneCell k u) comes) c.requires.kind c.requires.comes) c.requires.few

pub returns-clause-closes : goal.returns-clause-closes
returns-clause-closes g c =
    let S = g.S.PageRead in
    let a = c.args.store.now in
    on_ok_weaker c.change_root.result (λ changed. λ old told.
    let n = changed old told in (
      n.0,
      n.1,
      λ row base there opens.
          rooted-closes (sizes_of S a) c.args.page c.requires.page base there c.requires.kind row c.args.opened.change c.args.opened.comes.items (paged S a old) c.requires.within c.requires.comes opens
          (λ both.
          let is = c.is_emptied.ensures.1 (none-long c.args.opened.comes.items both.0, both.1) in
          cc (is, c.if-is_emptied.false)) (paged S c.change_root.new.store n.0) n.2,
    )) c.change_root.ensures.changed
