pub mod Pairs
pub mod Dues
pub mod ListsLaws
pub mod TouchedLaws
pub mod SortingLaws
