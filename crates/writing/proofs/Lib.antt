pub mod Examples
pub mod FurtherLaws
pub mod WordLaws
pub mod FailingLaws
pub mod PassedLaws
pub mod LengthLaws
pub mod OutcomeLaws
