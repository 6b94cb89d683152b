pub mod Gathered
pub mod Kinds
pub mod Layout
pub mod Value
pub mod Answers
pub mod Agreement
pub mod Example
