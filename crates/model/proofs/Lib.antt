pub mod Numbers
pub mod AnswerLaws
