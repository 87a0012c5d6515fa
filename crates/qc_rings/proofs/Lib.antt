pub mod Counting
pub mod Moves
pub mod Steps
pub mod StepLaws
pub mod Runs
pub mod Greatest
pub mod Mirrors
