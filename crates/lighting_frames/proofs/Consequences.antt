-- where the fields stand, and refusals 2 to 5
pub mod Bytes
-- a command, then reads of 0F to 14
pub mod Orders
-- bodies in tags (§1)
pub mod Tags
-- document 01's own number of stations
pub mod Numbers
