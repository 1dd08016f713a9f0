use Rattle.std.proofs.lemmas.Result.{on_ok_weaker}
use Rattle.tree_pages.specs.Takes.{UsesBy}
use Rattle.tree_pages.specs.UsesLaws.{writes-use}
use Rattle.tree_pages.specs.Writers.{paged, sizes_of}
use Rattle.tree_level.specs.ChangesLaws.{spelled-read}
use Rattle.tree_table.proofs.Used.{always}
use Rattle.std.proofs.Common.{ℕ, ◌≤◌, List, []}
use Rattle.std.proofs.Math.Path.{subst⁻¹}
use Rattle.page_spec.specs.Rooms.{free_bytes, needs}
use Rattle.tree_level.specs.Changes.{bytes_changed}
use Rattle.tree_table.proofs.Takings.{room-without}
use Rattle.tree_table.proofs.taking.write_without.Goals as goal

pub write_changed-requires-clause-room : goal.write_changed-requires-clause-room
write_changed-requires-clause-room g c = λ cells has.
    let u = g.S.PageRead.usable c.args.store.now in
    subst⁻¹ (λ (l : List (List ℕ)). needs (bytes_changed cells c.args.change l) ≤ free_bytes c.args.page.number u c.args.page.kind []) c.new.ensures.items
    (room-without u c.args.page c.args.change c.requires.sizes.usable cells has)

pub returns-clause-uses : goal.returns-clause-uses
returns-clause-uses g c =
    let S = g.S.PageRead in
    let a = c.args.store.now in
    let z = sizes_of S a in
    let b = c.write_changed.new.store in
    let page = c.args.page in
    let read = spelled-read z.usable page c.requires.page in
    on_ok_weaker c.write_changed.result (λ written. always S (UsesBy z 0) a b (λ old told.
    let r = written old told in (
      r.0,
      r.1,
      writes-use z (paged S a old) (paged S b r.0) page.number (r.2 read.0 read.1).writes,
    ))) c.write_changed.ensures.written
