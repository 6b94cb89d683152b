pub mod Numbers
pub mod Dates
pub mod Codes
pub mod Rolls
pub mod Dockets
pub mod Unknown
