pub mod Maps
pub mod MapsLaws
pub mod Told
pub mod ToldLaws
pub mod Counts
pub mod Reading
pub mod ReadingLaws
