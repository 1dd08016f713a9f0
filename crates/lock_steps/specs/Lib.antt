pub mod Locks
pub mod LocksLaws
pub mod Steps
