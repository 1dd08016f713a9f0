pub mod Searches
pub mod Leaves
