pub mod Respelling
pub mod RespellingLaws
