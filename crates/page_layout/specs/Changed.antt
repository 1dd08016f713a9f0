-- What a page is after one cell was put into it.
use Rattle.std.specs.Prelude.{ℕ, List, length}
use Rattle.std.specs.List.{insert}
use Rattle.page_spec.specs.Rooms.{HasNoHole, IsWritten, KeepsRest}
use Rattle.page_layout.specs.Accepted.{OfCells}
use Rattle.page_layout.specs.Written.{KeepsPlaces}

-- The page is written with one cell more at an index. Where it had no hole no other cell moved; what is not part of it stays.
pub record Inserts (old new : List ℕ) (number usable at : ℕ) (cell : List ℕ) : Type 0 where
  pub written : OfCells old number usable (λ kind cells right. IsWritten new number usable kind (insert cells at cell) right)
  pub still : OfCells old number usable (λ kind cells right. HasNoHole old number usable kind cells → KeepsPlaces old new number kind (length cells) at)
  pub rest : KeepsRest number usable old new
