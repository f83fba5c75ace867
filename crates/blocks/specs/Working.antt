pub mod Answer
pub mod Coding
