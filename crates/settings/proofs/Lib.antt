pub mod Listing
pub mod Leaves
