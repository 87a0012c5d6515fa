pub mod Choosing
pub mod Headers
pub mod Ending
pub mod Failing
pub mod Filling
pub mod Joining
pub mod Taking
