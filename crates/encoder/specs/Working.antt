pub mod Fed
pub mod Number
