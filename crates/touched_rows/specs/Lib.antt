pub mod TouchedRows
pub mod LittleTouched
pub mod TouchedRowsLaws
pub mod PartedRowsLaws
