pub mod Determined
pub mod Task
pub mod Wrote
