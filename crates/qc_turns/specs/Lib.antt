pub mod Marks
pub mod Ids
pub mod Ready
