use Rattle.std.proofs.Common.{◌≡◌, ◌-◌, ◌+◌, ℕ, List, length, take, drop, ap, ◌∙◌, arith}
use Rattle.format_spec.specs.Page.{cell_place}
use Rattle.index_cells.proofs.Reading.{cell-within, cell-stands}
use Rattle.index_cells.proofs.cells.bytes_at.Goals as goal

pub slice_bounds-result-end : goal.slice_bounds-result-end
slice_bounds-result-end c =
    let r = c.requires.page in
    let page = c.args.page.now in
    let place : c.place_of-start.result ≡ cell_place page.bytes page.number page.kind c.args.at = c.place_of-start.ensures.value ∙ ap (λ (l : List ℕ). cell_place l page.number page.kind c.args.at) c.as_slice-bytes.ensures in
    omega (arith, cell-within r.usable page r.cells c.args.at c.view_at.result r.has c.requires.within c.view_at.ensures, place, r.within, ap length c.as_slice-bytes.ensures)

pub returns : goal.returns
returns c usable cells has =
    let page = c.args.page.now in
    let bytes = c.as_slice-bytes.result.now in
    let start = c.place_of-start.result in
    let size = c.view_at.result.size in
    let long : start + size - start ≡ size = omega arith in
    let place : start ≡ cell_place page.bytes page.number page.kind c.args.at = c.place_of-start.ensures.value ∙ ap (λ (l : List ℕ). cell_place l page.number page.kind c.args.at) c.as_slice-bytes.ensures in
    ap (λ (n : ℕ). take n (drop start bytes)) long
    ∙ (λ i. take size (drop (place i) (c.as_slice-bytes.ensures i)))
    ∙ cell-stands usable page cells c.args.at c.view_at.result has c.requires.within c.view_at.ensures
