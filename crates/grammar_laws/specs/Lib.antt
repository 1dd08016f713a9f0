pub mod Misfits
pub mod Lexemes
pub mod TestsLaws
pub mod ProductionsLaws
pub mod AlikeLaws
pub mod LexemesLaws
