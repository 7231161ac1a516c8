pub mod OneRecord
pub mod NoRecord
pub mod OrderedRecords
