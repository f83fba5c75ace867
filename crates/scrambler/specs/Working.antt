pub mod Scrambles
