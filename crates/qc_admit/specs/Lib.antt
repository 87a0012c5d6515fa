pub mod Behind
pub mod Items
pub mod Reading
