pub mod Faults
pub mod FaultsLaws
pub mod Formats
pub mod NeedsLaws
