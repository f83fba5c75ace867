pub mod Group
pub mod Together
