pub mod Rings
pub mod Pairings
