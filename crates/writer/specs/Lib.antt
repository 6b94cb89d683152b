pub mod Records
pub mod Steps
pub mod Drafts
pub mod Stands
pub mod Open
pub mod Whole
pub mod Example
