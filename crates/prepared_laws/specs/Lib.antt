pub mod SortsLaws
pub mod PaddedKeysLaws
pub mod TablesMadeLaws
pub mod ChangesMadeLaws
pub mod TransactionsLaws
