mod Entries
mod Transports
mod Worlds
