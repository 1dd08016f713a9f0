pub mod GivenRows
pub mod KeyedRows
pub mod Runs
pub mod Sides
pub mod Touching
