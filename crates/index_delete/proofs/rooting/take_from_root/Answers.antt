use Rattle.std.proofs.Common.{arith}
use Rattle.tree_pages.specs.Writers.{paged, sizes_of}
use Rattle.index_delete.proofs.Readings.{readable}
use Rattle.index_delete.proofs.Rootings.{leaf-rooted}
use Rattle.index_delete.proofs.rooting.take_from_root.Goals as goal

pub take_cell-requires-clause-page : goal.take_cell-requires-clause-page
take_cell-requires-clause-page g c = readable (g.S.PageRead.usable c.args.store.now) c.args.page c.requires.page (omega (arith, c.requires.sizes.within, c.requires.whole))

pub returns-clause-shrinks : goal.returns-clause-shrinks
returns-clause-shrinks g c = λ old told.
    let S = g.S.PageRead in
    let a = c.args.store.now in
    let n = c.in_ok-write_without.ensures.written old told in (
      n.0,
      n.1,
      λ row there is_row. leaf-rooted (sizes_of S a) c.args.page c.requires.page (paged S a old) there c.requires.kind row c.args.at c.requires.at is_row c.args.page.right (paged S c.write_without.new.store n.0) n.2,
    )
