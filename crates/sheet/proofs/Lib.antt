pub mod AdapterLaws
mod PlainLaws
pub mod LineLaws
pub mod ListedLaws
pub mod ReturnLaws
pub mod FormerLaws
pub mod Examples
pub mod ResolveLaws
pub mod SkipLaws
pub mod ViewLaws
pub mod PartyLaws
pub mod RangeLaws
pub mod SurveyLaws
pub mod NamesLaws
pub mod CallLaws
