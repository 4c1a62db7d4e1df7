-- the mask's operations are those on the slots
pub mod Mask
-- what a slot emptied or filled does to the winner
pub mod Winner
-- levels stay levels
pub mod Levels
