pub mod PreparedDecidedLaws
pub mod CatalogNamesLaws
pub mod InputsMadeLaws
