pub mod Books
pub mod Calls
pub mod Stands
pub mod Promises
pub mod Runs
