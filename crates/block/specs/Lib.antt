pub mod Layout
pub mod Left
pub mod Blocks
pub mod Limits
pub mod Names
