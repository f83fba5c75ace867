pub mod Answer
pub mod Stepping
pub mod Turn
