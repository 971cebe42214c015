pub mod Gates
pub mod Marks
