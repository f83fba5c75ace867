pub mod Candidate
pub mod Mending
pub mod Scratch
