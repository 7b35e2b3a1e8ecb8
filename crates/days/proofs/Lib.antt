pub mod DayLaws
pub mod SetLaws
pub mod GrammarSound
pub mod GrammarComplete
pub mod RangeLaws
pub mod FuelLaws
