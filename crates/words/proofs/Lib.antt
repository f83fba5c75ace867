pub mod Apart
pub mod Calls
pub mod Exact
pub mod Rows
pub mod Ways
