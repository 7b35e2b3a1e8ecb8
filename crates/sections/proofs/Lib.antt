pub mod SignedLaws
pub mod FirstLaws
pub mod ComparisonLaws
