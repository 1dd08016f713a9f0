use Rattle.std.proofs.lemmas.Result.{on_ok_weaker}
use Rattle.tree_pages.specs.Writers.{paged, sizes_of}
use Rattle.tree_pages.specs.Takes.{UsesBy}
use Rattle.tree_pages.specs.UsesLaws.{writes-use}
use Rattle.tree_level.specs.ChangesLaws.{spelled-read}
use Rattle.index_delete.specs.UsesLaws.{always}
use Rattle.std.proofs.Common.{true}
use Rattle.index_delete.proofs.Closings.{room-of}
use Rattle.index_delete.proofs.closing.write_without.Goals as goal

pub write_changed-requires-clause-room : goal.write_changed-requires-clause-room
write_changed-requires-clause-room g c = room-of (g.S.PageRead.usable c.args.store.now) c.args.page (record { at = c.args.at; goes = true; right = c.args.page.right }) _ c.new.ensures.items c.requires.sizes.usable

pub returns-clause-uses : goal.returns-clause-uses
returns-clause-uses g c =
    let S = g.S.PageRead in
    let a = c.args.store.now in
    let z = sizes_of S a in
    let b = c.write_changed.new.store in
    let page = c.args.page in
    let read = spelled-read z.usable page c.requires.page in
    on_ok_weaker c.write_changed.result (λ written. always S (UsesBy z 0) a b (λ old told.
    let r = written old told in (
      r.0,
      r.1,
      writes-use z (paged S a old) (paged S b r.0) page.number (r.2 read.0 read.1).writes,
    ))) c.write_changed.ensures.written
