pub mod Answer
pub mod Line
pub mod Within
