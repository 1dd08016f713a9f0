pub mod Changed
pub mod Fronts
pub mod Placing
pub mod Raised
