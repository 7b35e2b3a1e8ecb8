pub mod EntryLaws
pub mod BackLaws
mod BackPartLaws
pub mod RowLaws
mod SignedLaws
