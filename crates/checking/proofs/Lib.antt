pub mod Steps
pub mod Known
pub mod Leaves
pub mod Fitting
pub mod Rows
pub mod Dividing
