pub mod Words
pub mod Heading
pub mod Spelling
