use Rattle.std.proofs.Common.{ℕ, List, drop, false}
use Rattle.format_spec.specs.declared.PageKind.{PageKind}
use Rattle.page_layout.specs.Accepted.{OfCells}
use Rattle.tree_level.specs.Changes.{changed}
use Rattle.tree_level.proofs.Placing.{IsComing}
use Rattle.tree_level.proofs.in_place.put_in.Given as goal

abbrev pub invariant-loop-cell : goal.invariant-loop-cell
invariant-loop-cell l =
    OfCells l.fn.page l.fn.number l.fn.usable (λ (kind : PageKind) (cells : List (List ℕ)) (right : ℕ). IsComing l.page l.fn.number l.fn.usable kind right l.place (drop l.cell-index l.comes) (changed cells l.fn.at false l.comes))
