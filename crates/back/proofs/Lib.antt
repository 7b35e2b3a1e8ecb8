mod HeldLaws
mod NumberLaws
pub mod RowLaws
