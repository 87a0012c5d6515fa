pub mod Places
pub mod NextIds
pub mod Folding
pub mod Waiting
pub mod Leaving
