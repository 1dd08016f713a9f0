pub mod KeptLaws
pub mod WholeWorlds
