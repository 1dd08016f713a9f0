pub mod IndexSteps
pub mod Databases
pub mod ListsLaws
pub mod StandingLaws
pub mod StepsLaws
pub mod ClashesLaws
pub mod DatabasesLaws
