pub mod Fill
pub mod Places
pub mod Step
pub mod Tiling
pub mod Walk
pub mod Working
