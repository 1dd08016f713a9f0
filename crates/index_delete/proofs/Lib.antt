mod Closings
mod Endings
mod Openings
mod Readings
mod Rootings
mod Counts
mod Refused
