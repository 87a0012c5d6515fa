pub mod Behind
pub mod Greased
pub mod Finishes
pub mod Full
pub mod Flips
pub mod OpenedLemmas
pub mod Sealed
pub mod Arrivals
