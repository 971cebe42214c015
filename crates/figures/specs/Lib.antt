pub mod Setting
pub mod Figures
