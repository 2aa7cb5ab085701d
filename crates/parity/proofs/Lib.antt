pub mod Xor
pub mod Steps
pub mod Unique
pub mod Digits
pub mod Words
