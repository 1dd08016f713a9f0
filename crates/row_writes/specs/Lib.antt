pub mod RowWrites
pub mod StoredLaws
