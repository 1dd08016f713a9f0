pub mod Shapes
pub mod ShapesLaws
pub mod OwnCellsLaws
pub mod WritingLaws
