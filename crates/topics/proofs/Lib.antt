pub mod DifferentLaws
pub mod AllowedLaws
pub mod RangeLaws
pub mod LentLaws
pub mod KeptLaws
pub mod Examples
