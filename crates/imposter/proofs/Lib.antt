mod Beginning
mod Faults
mod FoundRows
mod Passing
mod ReadWrites
mod RowsMet
mod Short
mod Stepping
