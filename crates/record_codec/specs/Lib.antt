pub mod Faults
pub mod Records
pub mod IntegersLaws
pub mod RecordLaws
pub mod FaultsLaws
