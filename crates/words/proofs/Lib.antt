pub mod Numerals
pub mod Fronts
pub mod Listing
pub mod Heeding
pub mod Naming
