pub mod Bytes
pub mod Room
