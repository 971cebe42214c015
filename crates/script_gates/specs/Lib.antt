pub mod GateReplies
pub mod SplitReplies
