-- The theorems of this layer, in reading order.
-- all outputs of a table at once: what the list theorem stands on
pub mod Table
-- a frame among those of a list
pub mod Among
-- a frame as a station keeps it
pub mod Lengths
-- strings that are too long
pub mod Long
-- THE LIST THEOREM
pub mod Lists
-- frames that come again change nothing
pub mod Repeats
-- DEMAND 3
pub mod Demand
-- what a caller may conclude
pub mod Calls
-- the ways of `start` and `frame`, for proofs of code
pub mod Carried
-- for functions over a lent record
-- frames under other names
pub mod Renamed
-- commands in tags, in lists (§1)
pub mod TaggedLists
-- the panel as it stood before §6 is today's at one set, on lists without a longer fade time (§7)
pub mod OldPanel
pub mod OldLists
pub mod FourHours
-- what an engineer would check by hand
pub mod Consequences
-- the claim of secrecy, and that each of its premises is needed (§8)
pub mod Secrecy
pub mod Needed
-- worked lists, computed
pub mod Figures
-- definitions by clauses, for proofs of code
pub mod Laws
