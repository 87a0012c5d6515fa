pub mod EndingLemmas
pub mod OutsideLemmas
pub mod RunLemmas
