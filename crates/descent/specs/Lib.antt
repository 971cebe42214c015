pub mod Descents
pub mod Rows
