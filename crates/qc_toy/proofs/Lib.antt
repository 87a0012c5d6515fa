pub mod CipherLemmas
pub mod MessageLemmas
pub mod RunLaws
