pub mod Lines
pub mod Spelt
pub mod Runs
pub mod Marked
pub mod Heading
