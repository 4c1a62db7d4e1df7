pub mod Letters
pub mod Range
pub mod Leads
pub mod Marks
pub mod Naming
