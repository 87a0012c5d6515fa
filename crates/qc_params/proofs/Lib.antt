pub mod AddressLength
pub mod EntryLaws
pub mod GrammarLaws
pub mod ValueLaws
pub mod ReadingLaws
pub mod RoundTrip
