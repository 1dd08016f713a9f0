pub mod Changes
pub mod ChangesLaws
pub mod Levels
pub mod Views
