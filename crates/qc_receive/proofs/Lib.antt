pub mod Behind
pub mod Cuts
pub mod FirstDatagrams
pub mod Handed
pub mod Mismatches
pub mod Opens
pub mod Shorts
