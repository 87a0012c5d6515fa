pub mod OneText
pub mod TraceText
