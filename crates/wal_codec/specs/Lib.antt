pub mod Frames
pub mod FramesRead
pub mod LogLaws
pub mod LogReading
pub mod LogReadingLaws
pub use Rattle.format_spec.specs.Log
