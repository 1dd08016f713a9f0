pub mod Lists
pub mod Order
pub mod Reading
pub mod Steps
pub mod TableColumns
pub mod WrongTokens
