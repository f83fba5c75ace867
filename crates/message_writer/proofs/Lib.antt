pub mod Bytes
pub mod Several
pub mod Standing
pub mod Types
pub mod Ways
