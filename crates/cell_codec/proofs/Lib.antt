pub mod Reading
pub mod Writing
pub mod CellReading
pub mod InteriorReading
pub mod IndexReading
pub mod CellWriting
