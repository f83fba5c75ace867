pub mod Burst
pub mod Calls
pub mod Head
pub mod Near
pub mod Working
