pub mod SmallFile
pub mod Inserts
pub mod SmallUpdate
pub mod SmallLaws
pub use Rattle.file_spec.specs.Files
pub use Rattle.update_spec.specs.Update
