pub mod Division
pub mod Register
pub mod Parity
