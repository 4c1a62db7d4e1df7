pub mod Paper
pub mod Engine
