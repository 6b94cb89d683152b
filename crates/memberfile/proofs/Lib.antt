pub mod Steps
pub mod Summaries
pub mod Turns
pub mod Walks
