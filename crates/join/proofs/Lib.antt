mod RowLaws
mod KeptLaws
mod ConditionLaws
mod TopicLaws
mod CallLaws
pub mod ListLaws
pub mod FirstsLaws
pub mod Theorem
pub mod OnceLaws
pub mod ItselfLaws
pub mod TurnLaws
pub mod IsolationLaws
