pub mod PossibleLaws
pub mod ListLaws
