pub mod Receiving
pub mod Owed
