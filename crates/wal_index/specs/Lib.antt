pub mod FrameIndex
pub mod IndexLaws
pub mod OverlayLaws
