pub mod Alikes
pub mod AlikesLaws
