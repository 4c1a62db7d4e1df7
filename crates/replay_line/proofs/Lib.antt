pub mod Spelled
pub mod Through
pub mod Parts
pub mod Listed
