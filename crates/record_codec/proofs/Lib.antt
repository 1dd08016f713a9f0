pub mod Reading
pub mod Lengths
