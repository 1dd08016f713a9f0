pub mod Remaining
pub mod CoursesLaws
pub mod Rows
pub mod RemainingLaws
