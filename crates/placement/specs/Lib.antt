pub mod Kept
pub mod Placing
pub mod Layers
pub mod Sounds
pub mod Moved
