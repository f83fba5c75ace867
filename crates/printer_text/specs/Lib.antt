pub mod Codes
pub mod Line
pub mod Lines
