pub mod Folders
pub mod OpenFiles
pub mod Paths
