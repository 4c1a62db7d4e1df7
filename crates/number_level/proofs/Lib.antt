-- The facts that the functions' proofs cite.
mod Numbers
mod Scaled
mod Tested
pub mod Missing
