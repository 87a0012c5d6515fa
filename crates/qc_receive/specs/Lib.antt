pub mod Cutting
pub mod Events
pub mod FirstPacket
pub mod Short
pub mod Told
