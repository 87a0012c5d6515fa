pub mod Earliest
pub mod Fronts
pub mod Leaving
pub mod Ranges
pub mod Sifting
pub mod Sums
