pub mod Buckets
pub mod Entries
