pub mod Decision
pub mod PackedLeaf
pub mod SmallAgain
pub use Rattle.small_spec.specs.SmallFile
pub use Rattle.small_spec.specs.Inserts
