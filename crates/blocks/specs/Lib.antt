pub mod Block
pub mod Calls
pub mod Near
pub mod Reading
pub mod Working
