pub mod Check
pub mod Working
