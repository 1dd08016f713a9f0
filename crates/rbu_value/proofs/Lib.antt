pub mod Scanning
pub mod Words
