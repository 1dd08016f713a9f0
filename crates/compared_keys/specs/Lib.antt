pub mod Keys
pub mod KeysLaws
pub mod Noted
pub mod NotedLaws
