pub mod Found
pub mod Partly
