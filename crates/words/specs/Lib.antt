pub mod Calls
pub mod Near
pub mod Word
pub mod Working
