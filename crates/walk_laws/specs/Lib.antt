pub mod CellsDecidedLaws
pub mod PagesDecidedLaws
pub mod WalksMadeLaws
pub mod RecordsDecidedLaws
