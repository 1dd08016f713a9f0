pub mod Deletes
pub mod Needs
pub mod UsesLaws
pub mod NeighboursLaws
