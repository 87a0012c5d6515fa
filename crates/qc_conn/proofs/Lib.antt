mod Clocks
mod Counting
mod ForcedUpdates
pub mod Refusals
pub mod RunsPlain
pub mod Reports
pub mod Firsts
mod NewEnds
mod NewIds
mod NewKeys
mod NewLaws
pub mod Posting
mod Sealing
mod Stores
pub mod StreamCalls
pub mod TokensStored
pub mod MarkSteps
mod Marks
