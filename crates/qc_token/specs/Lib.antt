pub mod Nonce
pub mod TokenGrammar
pub mod TokenReading
pub mod TokenSpelling
pub mod Tokens
