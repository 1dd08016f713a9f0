pub mod FileMap
pub mod FileMapLaws
pub mod LogFile
pub mod Overlay
pub mod OverlayLaws
pub mod SuitsLaws
