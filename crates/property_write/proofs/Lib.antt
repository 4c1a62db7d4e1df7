pub mod Keys
pub mod Priorities
