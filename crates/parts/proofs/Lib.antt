pub mod Growing
pub mod Hearing
pub mod Holding
pub mod Lengths
