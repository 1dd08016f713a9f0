pub mod Bytes
pub mod BytesLaws
pub mod Numbers
pub mod NumbersLaws
pub mod Fields
pub mod FieldsLaws
