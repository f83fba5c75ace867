pub mod Calls
pub mod Message
pub mod Several
pub mod Working
