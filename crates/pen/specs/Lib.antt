pub mod Buffer
pub mod Puts
