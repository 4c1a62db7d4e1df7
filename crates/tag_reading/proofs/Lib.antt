pub mod Looking
pub mod Judging
