pub mod OnRoll
pub mod Promised
pub mod Runs
pub mod Steps
