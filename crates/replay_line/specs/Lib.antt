pub mod Taking
pub mod Listed
pub mod Tables
