pub mod Ring
pub mod Keyed
pub mod TwoRings
pub mod InStep
pub mod PairLaws
pub mod Party
pub mod Parties
