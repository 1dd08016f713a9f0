mod ClaimLists
mod Closing
mod Steps
