pub mod Cuts
pub mod NeedsLaws
pub mod Shares
