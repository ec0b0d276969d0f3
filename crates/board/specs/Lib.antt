pub mod Steps
pub mod Meaning
pub mod Keeps
pub mod Standing
pub mod Keeping
