pub mod LoopLaws
pub mod SectionLaws
pub mod ReadLaws
pub mod ProfileLaws
