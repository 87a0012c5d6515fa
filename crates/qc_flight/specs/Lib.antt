pub mod Packets
pub mod StreamFrames
