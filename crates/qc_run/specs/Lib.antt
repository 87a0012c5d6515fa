pub mod Ending
pub mod Outside
pub mod RunText
pub mod Words
