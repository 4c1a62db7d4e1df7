-- kinds 02 and 03
pub mod Written
-- kind 04
pub mod Changed
-- the levels that an output works with
pub mod Shown
-- each of the commands
pub mod Commanded
-- every request
pub mod Acted
-- never refusal 1
pub mod Answered
