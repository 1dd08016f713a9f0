pub mod Controls
pub mod ControlsLaws
