-- the record rules as facts
pub mod Facts
-- the test holds exactly where the facts do
pub mod Tied
-- what acting may count on
pub mod RequestInRange
-- what a write leaves meets its row
pub mod Rows
-- which numbers a set may have
pub mod Startable
-- a priority as a frame names it
pub mod PrioritiesNamed
-- a command's fields in range
pub mod CommandRanges
