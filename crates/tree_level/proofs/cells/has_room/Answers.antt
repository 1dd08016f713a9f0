use Rattle.std.proofs.Common.{◌≡◌, ◌≤◌, ◌-◌, ◌^◌, ℕ, List, [], length, min, take, drop, ap, ◌∙◌, arith}
use Rattle.std.proofs.lemmas.List.{take_rest}
use Rattle.format_spec.specs.declared.CellView.{CellView}
use Rattle.page_spec.specs.Rooms.{free_bytes, needs}
use Rattle.tree_level.specs.Changes.{behind, bytes_changed}
use Rattle.tree_level.proofs.Changed.{fits-told, room-told, views_needs}
use Rattle.tree_level.proofs.cells.has_room.Goals as goal

pub returns : goal.returns
returns c cells has =
    let page = c.args.page.now in
    let change = c.args.change in
    let b = behind change.at change.goes in
    let views = c.as_slice-views.result.now in
    let same : views ≡ page.views = c.as_slice-views.ensures in
    let front : c.views_need-front.result ≡ min (views_needs (take change.at page.views)) (2 ^ 64 - 1) =
    c.views_need-front.ensures ∙ ap (λ (l : List CellView). min (views_needs (take change.at l)) (2 ^ 64 - 1)) same in
    let back : c.views_need-back.result ≡ min (views_needs (drop b page.views)) (2 ^ 64 - 1) =
    c.views_need-back.ensures
    ∙ ap (λ (n : ℕ). min (views_needs (take (length views - n) (drop n views))) (2 ^ 64 - 1)) c.behind.ensures
    ∙ ap (λ (l : List CellView). min (views_needs l) (2 ^ 64 - 1)) (take_rest views b)
    ∙ ap (λ (l : List CellView). min (views_needs (drop b l)) (2 ^ 64 - 1)) same in
    let free : free_bytes page.number c.args.usable page.kind [] ≤ c.args.usable = omega arith in
    let both = fits-told (views_needs (take change.at page.views)) (views_needs (drop b page.views)) (needs c.args.comes.now) c.saturating_add-total.result c.room_in.result c.args.usable
    (needs (bytes_changed cells change c.args.comes.now)) (room-told c.args.usable page change c.args.comes.now cells has) (omega (arith, c.room_in.ensures, free)) c.requires.usable.most
    (omega (arith, c.saturating_add-total.ensures, c.saturating_add.ensures, front, back, c.needs.ensures)) in
    (λ fits. omega (arith, both.0 fits, c.room_in.ensures), λ fits. both.1 (omega (arith, fits, c.room_in.ensures)))
