pub mod Bits
pub mod Datagram
pub mod Row
pub mod Xor
pub mod Working
