pub mod Headers
pub mod Forth
pub mod Complete
pub mod Sound
pub mod Exact
pub mod Refuse
pub mod Refuted
pub mod Examples
