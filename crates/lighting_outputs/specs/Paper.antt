-- DOCUMENT 01 AND §1 TO §8 AS DEFINITIONS, this layer's part: what a reader must believe. In reading order;
-- docs/PAPER.md has all layers.
-- the set of parameters, and which sets a panel may have
pub mod Parameters
pub mod Startable
-- 'An output's record': slots, what an output shows, its relay (§3), every way to change its record
pub mod Slots
pub mod Value
pub mod Relay
pub mod Record
-- 'The plain panel': one millisecond of an output, and what falls due in it
pub mod Passing
-- 'Writes and commands', 'Blink warning'
pub mod Writing
pub mod Operations
pub mod Commands
-- §8: tenant stations, and what they are shown
pub mod Tenants
-- the four answers; the properties, a row each, written and read
pub mod Answers
pub mod Rows
pub mod Properties
-- what fields ask for, with refusals 10 to 12; a fresh record; what a request does
pub mod Requests
pub mod Fresh
pub mod Acting
-- 'Record rules'
pub mod Rules
-- §7: a time within two numbers
pub mod TimeWithin
-- §8: what a tenant may learn of an output
pub mod Learnt
-- 'Bench figures' 1 to 8; §2 to §4 and fresh values and rules by hand
pub mod Figures
pub mod WorkedLight
pub mod WorkedRelay
pub mod WorkedJumps
pub mod WorkedFresh
pub mod WorkedOutside
-- §8 by hand: what a tenant and a service station read
pub mod WorkedTenants
