pub mod Reading
pub mod Writing
pub mod HeaderLaws
pub use Rattle.format_spec.specs.Header
