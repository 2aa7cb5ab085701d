pub mod Stages
pub mod Line
