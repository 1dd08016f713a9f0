pub mod UsableBatchesLaws
pub mod UsableGroupsLaws
