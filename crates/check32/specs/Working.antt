pub mod Bytes
pub mod Closes
pub mod Marks
