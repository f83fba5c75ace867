pub mod Entries
pub mod Facts
pub mod Good
pub mod GoodFlags
pub mod Padded
pub mod PassedOn
pub mod Period
pub mod Search
