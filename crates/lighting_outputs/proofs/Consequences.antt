-- a request to a table of one output
pub mod Alone
-- Present_Value
pub mod Present
-- kind 05 by number
pub mod Reads
-- what a tenant is shown (§8)
pub mod Tenants
-- kind 04, then kind 05
pub mod Writes
-- the order of a command's refusals
pub mod FirstRefusal
-- REALs outside, row by row
pub mod Outside
-- and by their patterns
pub mod OutsidePatterns
-- kinds 02 and 03
pub mod Stored
-- a warning's whole course
pub mod Warning
-- what ends a warning
pub mod Interrupted
-- fades and ramps
pub mod Movements
-- what a command leaves in the slots
pub mod Targets
-- durations
pub mod Durations
-- Elapsed_Active_Time
pub mod Burning
-- how long a movement burns (§2)
pub mod Light
-- the relay (§3)
pub mod Relay
-- document 01's own numbers
pub mod Numbers
-- refusal 11 of a property's write
pub mod RefusalEleven
