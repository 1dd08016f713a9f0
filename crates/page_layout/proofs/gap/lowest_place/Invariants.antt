use Rattle.std.proofs.Common.{◌<◌, ◌≤◌, ℕ}
use Rattle.format_spec.specs.Page.{cell_place}
use Rattle.page_layout.proofs.gap.lowest_place.Given as goal

abbrev pub invariant-loop-index : goal.invariant-loop-index
invariant-loop-index l = record {
  most : l.lowest ≤ l.usable;
  below : (k : ℕ) → k < l.index → l.lowest ≤ cell_place l.page l.number l.kind k;
}
