pub mod Pages
pub mod Decimals
pub mod Lengths
