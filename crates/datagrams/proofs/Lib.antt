pub mod Packed
pub mod Pieces
pub mod Unpacked
pub mod WithinByte
