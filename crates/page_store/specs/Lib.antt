pub mod Calls
pub mod Store
pub mod Plain
pub mod StoreLaws
