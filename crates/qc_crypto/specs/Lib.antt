pub mod GivenKeys
pub mod Mates
pub mod Refusal
pub mod Sealing
pub mod Start
