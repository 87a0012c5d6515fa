pub mod Frame
pub mod FrameGrammar
pub mod FrameReading
pub mod FrameSpelling
pub mod Payload
pub mod Sizes
pub mod FrameFits
pub mod AckRanges
