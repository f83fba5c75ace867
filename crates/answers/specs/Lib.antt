pub mod Numbers
pub mod Outcome
pub mod Task
pub mod Working
pub mod Written
