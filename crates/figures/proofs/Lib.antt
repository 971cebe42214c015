pub mod Entered
pub mod Computed
pub mod Told
pub mod Alone
pub mod Figured
