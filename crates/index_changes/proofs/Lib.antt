pub mod Pairing
pub mod Changing
pub mod EntryOrders
