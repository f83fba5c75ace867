pub mod AtGroup
pub mod Places
pub mod Stands
pub mod Together
