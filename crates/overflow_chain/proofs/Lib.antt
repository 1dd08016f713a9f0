pub mod Walks
pub mod Writes
