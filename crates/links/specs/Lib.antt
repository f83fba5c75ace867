pub mod Patterns
pub mod Rows
pub mod Sizes
pub mod Working
