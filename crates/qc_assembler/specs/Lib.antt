pub mod Assembly
pub mod Parts
pub mod Ahead
pub mod Reads
pub mod Waiting
pub mod Chain
