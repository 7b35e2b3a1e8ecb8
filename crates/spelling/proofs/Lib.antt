pub mod PutLaws
pub mod FormLaws
pub mod NumberLaws
pub mod SignedLaws
pub mod WeekLaws
pub mod PartLaws
