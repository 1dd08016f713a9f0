-- The room that a cell takes, by its view.
use Rattle.std.specs.Prelude.{ℕ, max}
use Rattle.format_spec.specs.declared.CellView.{CellView}

abbrev pub view_room : CellView → ℕ
view_room view = max 4 view.size
