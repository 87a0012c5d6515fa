pub mod Cids
pub mod Laws
pub mod Steps
