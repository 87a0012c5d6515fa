pub mod Shares
pub mod SharesLaws
