pub mod Kept
pub mod Lists
pub mod Closed
pub mod Listed
pub mod Keeping
