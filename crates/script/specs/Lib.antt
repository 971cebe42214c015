pub mod Questions
pub mod GroupCommands
pub mod ScalarCommands
pub mod Commands
pub mod Sessions
