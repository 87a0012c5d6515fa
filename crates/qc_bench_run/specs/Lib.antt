pub mod Asking
pub mod Mixed
pub mod Passing
pub mod Results
pub mod Weights
