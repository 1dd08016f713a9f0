pub mod Orders
pub mod OrdersLaws
pub mod Fields
pub mod ProjectionsLaws
