pub mod TableSteps
pub mod LittleTableSteps
pub mod BatchStepsLaws
pub mod RowidKeysLaws
pub mod StepListsLaws
pub mod BatchesLaws
pub mod GroupsLaws
