pub mod Checks
pub mod ChecksLaws
pub mod Questions
pub mod QuestionsLaws
