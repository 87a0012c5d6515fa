pub mod Announcement
pub mod EndpointValues
pub mod ServerValues
pub mod Incoming
pub mod Taking
pub mod TokenCache
pub mod CacheLaws
