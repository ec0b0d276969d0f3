pub mod Scan
pub mod Values
pub mod Parts
pub mod Exactly
