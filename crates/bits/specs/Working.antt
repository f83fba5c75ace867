pub mod Weave
