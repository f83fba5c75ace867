pub mod Clocks
pub mod Good
pub mod Padded
pub mod Twice
