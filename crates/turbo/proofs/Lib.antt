pub mod Affine
pub mod Cases
pub mod Interleaved
pub mod Lengths
pub mod Passing
pub mod Permutation
pub mod Steps
pub mod Weave
