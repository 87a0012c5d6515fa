pub mod Room
pub mod GivenLaw
