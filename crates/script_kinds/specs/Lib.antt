pub mod KindCommands
pub mod KindReplies
