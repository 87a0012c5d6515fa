pub mod CacheEntries
pub mod CacheLaws
pub mod KeptTokens
