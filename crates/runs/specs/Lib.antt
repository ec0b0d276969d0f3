pub mod Records
pub mod Sums
pub mod Calls
pub mod Log
pub mod Plant
pub mod Promises
