pub mod FieldLemmas
pub mod IdLemmas
pub mod ItemLemmas
pub mod LineLemmas
pub mod NumberLemmas
pub mod ScriptLemmas
pub mod SettingLemmas
