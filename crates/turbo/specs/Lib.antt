pub mod Coded
pub mod Encoder
pub mod Interleaver
pub mod Outputs
pub mod Working
