pub mod SheetNames
pub mod RowLaws
pub mod ShapeLaws
pub mod PutLaws
pub mod BackLaws
pub mod ConvertLaws
