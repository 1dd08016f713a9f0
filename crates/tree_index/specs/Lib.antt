pub mod Entries
pub mod EntriesLaws
pub mod Searches
pub mod Puts
pub mod Needs
pub mod ListsLaws
pub mod PlacesLaws
pub mod ReadsLaws
