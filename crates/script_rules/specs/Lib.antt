pub mod RuleCommands
pub mod RuleReplies
