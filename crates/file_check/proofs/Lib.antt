pub mod Rising
pub mod TreeWalks
pub mod Judging
pub mod Passing
pub mod Subjects
pub mod Files
