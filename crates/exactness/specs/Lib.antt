pub mod Acceptance
pub mod Refusal
pub mod Example
