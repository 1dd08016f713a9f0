pub mod Repeating
pub mod Separators
