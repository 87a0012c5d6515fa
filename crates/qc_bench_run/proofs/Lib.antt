pub mod AskingLemmas
pub mod MixedLemmas
pub mod SealingLemmas
pub mod PassingLemmas
