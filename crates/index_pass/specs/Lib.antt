pub mod Changes
pub mod Passes
pub mod Targets
