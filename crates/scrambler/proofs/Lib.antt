pub mod Ahead
pub mod Calls
pub mod Register
pub mod Running
pub mod Sequence
