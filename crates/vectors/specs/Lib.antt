pub mod Links
pub mod Phases
pub mod Linked
pub mod Reached
pub mod View
