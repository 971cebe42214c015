pub mod Spellings
pub mod Transcripts
