pub mod Deletes
pub mod Needs
pub mod Puts
