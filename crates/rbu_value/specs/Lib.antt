pub mod Affinity
pub mod AffinityLaws
pub mod NumericText
pub mod Order
pub mod OrderLaws
pub mod Scan
