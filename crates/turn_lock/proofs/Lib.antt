mod Lists
mod Splits
mod Steps
