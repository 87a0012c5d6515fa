pub mod Lending
pub mod Posting
pub mod Parts
pub mod Refusal
pub mod RefusedText
pub mod Seen
pub mod Opened
pub mod Stored
