pub mod Payloads
pub mod TokenLaws
