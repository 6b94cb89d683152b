pub mod Bytes
pub mod Values
pub mod Records
pub mod Rows
pub mod Readers
