pub mod Bits
pub mod Part
pub mod Parts
pub mod Convolution
pub mod Limits
