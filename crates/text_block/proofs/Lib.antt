pub mod Tagged
pub mod Turns
