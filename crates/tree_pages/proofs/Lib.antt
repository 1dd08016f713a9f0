pub mod Given
pub mod Overflowed
pub mod Taken
