pub mod Gathering
pub mod Chosen
pub mod Written
pub mod Numbers
pub mod Answered
pub mod Agreeing
