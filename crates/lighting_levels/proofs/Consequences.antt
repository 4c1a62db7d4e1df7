-- halves go to the even unit (§5)
pub mod Halves
