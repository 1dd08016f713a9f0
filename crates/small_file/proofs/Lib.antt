pub mod CellRows
pub mod Pages
pub mod Readings
pub mod Records
pub mod Rising
pub mod Rows
