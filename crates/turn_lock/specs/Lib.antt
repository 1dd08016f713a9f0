pub mod Lists
pub mod Meeting
pub mod Rule
pub mod RuleLaws
pub mod Seats
pub mod Steps
pub mod Views
