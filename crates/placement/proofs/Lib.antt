pub mod Formula
pub mod Header
pub mod Spots
