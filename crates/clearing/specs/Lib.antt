pub mod Choices
pub mod Table
pub mod Sums
pub mod Balances
pub mod Positions
pub mod Sheets
pub mod Laws
pub mod Lanes
