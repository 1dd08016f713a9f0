pub mod Faults
pub mod Takes
pub mod TakesLaws
pub mod UsesLaws
pub mod Writers
pub mod WritersLaws
