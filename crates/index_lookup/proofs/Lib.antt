pub mod Columns
pub mod EqualEntries
pub mod Roots
