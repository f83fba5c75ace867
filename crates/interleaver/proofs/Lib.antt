pub mod Laid
pub mod Stepping
