pub mod Parts
pub mod Senders
pub mod Ledger
pub mod Refusals
pub mod Rows
pub mod Files
pub mod Settled
pub mod Questions
