pub mod Begins
pub mod Finds
pub mod Passes
pub mod Steps
pub mod Writes
