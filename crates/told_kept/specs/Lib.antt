pub mod Laws
pub mod TableLaws
