mod Midway
mod Reading
mod Stepping
