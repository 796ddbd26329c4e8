pub mod Fills
pub mod Numbered
pub mod Prefix
pub mod Ready
pub mod Wholes
