pub mod HashedCids
pub mod Queues
pub mod Numbers
pub mod QueueLaws
pub mod Dropped
pub mod IssueLaws
