pub mod Admits
pub mod Codes
pub mod Found
pub mod Going
pub mod Orders
pub mod Rolls
pub mod Within
