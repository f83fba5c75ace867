pub mod Every
pub mod Line
pub mod Over
pub mod Parts
pub mod Tests
