-- DOCUMENT 01 AND §1 TO §8 AS DEFINITIONS, this layer's part: what a reader must believe. In reading order;
-- docs/PAPER.md has all layers.
-- the panel, its counts, and the start
pub mod Panel
-- 'The plain panel' over a list; demand 3; what a caller may conclude
pub mod Plain
pub mod Demand
pub mod Calls
-- §1 in lists
pub mod ActsAsPlain
-- the panel as it stood before §6; §7: lists without a longer fade time
pub mod OldPanel
pub mod FourHours
-- §8: the claim of secrecy
pub mod Secrecy
-- worked lists: bench figures 9 and 10 and the traps; §1, §4 and §5
pub mod Worked
pub mod WorkedOrder
pub mod WorkedTagLists
pub mod WorkedJumpLists
pub mod WorkedHalfLists
-- refusal 1 by hand: the record rules
pub mod WorkedRules
-- §6 by hand: which sets may be started, and frames at some
pub mod WorkedSets
-- §7 by hand: fade times at the top, and lists with longer ones
pub mod WorkedFourHours
-- §8 by hand: a list with a tenant; two panels for each premise of the claim of secrecy
pub mod WorkedTenantLists
pub mod WorkedSecrecy
