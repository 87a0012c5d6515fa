pub mod Queue
pub mod Datagrams
pub mod Given
pub mod Size
pub mod Steps
