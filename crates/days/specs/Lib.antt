pub mod Days
pub mod Grammar
pub mod Read
