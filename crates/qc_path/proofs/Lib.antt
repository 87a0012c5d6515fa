pub mod AcksDue
pub mod Arrivals
pub mod Estimates
pub mod Paces
pub mod RangesWith
pub mod Windows
