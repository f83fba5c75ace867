pub mod Cleared
pub mod Laying
pub mod Together
