pub mod Total
pub mod Ring
pub mod Roots
pub mod Forms
pub mod Carried
pub mod Steps
