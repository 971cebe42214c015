pub mod Moved
pub mod Shares
pub mod Going
