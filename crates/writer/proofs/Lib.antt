pub mod Tags
pub mod Lawful
pub mod Longer
pub mod Growth
pub mod Surveys
pub mod Complete
