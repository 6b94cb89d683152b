pub mod Headers
pub mod Layout
pub mod Stages
pub mod Judge
pub mod Walk
pub mod Rows
