pub mod Deletes
pub mod Needs
