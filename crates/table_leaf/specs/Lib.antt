pub mod Searches
pub mod Leaves
pub mod LeavesLaws
