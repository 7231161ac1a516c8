pub mod NumberFields
pub mod PrefixFree
pub mod FieldLengths
