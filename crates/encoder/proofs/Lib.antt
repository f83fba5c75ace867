pub mod Feed
pub mod Number
pub mod Taps
