pub mod Every
pub mod Over
pub mod Working
