pub mod Answered
pub mod Calls
pub mod Links
pub mod Parts
pub mod Reading
pub mod Symbols
pub mod WaysOfReading
pub mod Writing
