pub mod Places
pub mod Stepping
pub mod Tiling
pub mod Turns
pub mod Walk
pub mod Ways
