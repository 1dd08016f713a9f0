pub mod Keys
pub mod Leaf
pub mod Whole
pub mod Page
pub mod FirstPage
pub mod Again
pub mod Decisions
