pub mod Buffer
pub mod Segments
pub mod Sending
pub mod Written
pub mod Fates
pub mod StreamFates
