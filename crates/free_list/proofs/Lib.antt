pub mod Bytes
pub mod Taking
pub mod Giving
pub mod Answering
pub mod Calls
