pub mod VarintLaws
pub mod Varints
pub mod Cells
pub mod CellLaws
