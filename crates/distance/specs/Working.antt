pub mod Candidate
pub mod Coding
pub mod Near
