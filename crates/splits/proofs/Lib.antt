pub mod Sizes
pub mod Picked
pub mod Splitting
pub mod Forks
