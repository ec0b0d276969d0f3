pub mod Fed
pub mod Kept
pub mod Played
pub mod Words
