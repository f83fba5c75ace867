pub mod Apart
pub mod Candidate
pub mod Exact
pub mod Marks
pub mod Weave
