pub mod Digits
pub mod Line
pub mod Lines
pub mod Misread
