pub mod Asking
pub mod State
pub mod Taking
