-- The theorems of this layer, in reading order.
-- tools: a proof split on a test that computes
pub mod Split
-- tools: choices where code has branched
pub mod Choosing
-- tools: a loop that tests one number after another
pub mod Scan
-- tools: a number that none of a match's keys is
pub mod Keys
-- tools: the first entries of a list, and the rest
pub mod Parts
-- every one of a list
pub mod Every
-- the product of two numbers of k bits
pub mod Product
-- numbers in bytes, for every width
pub mod Fields
-- the rounding fact, proved once
pub mod Rounding
-- where the units of levels, limits, rates and steps lie
pub mod Ranges
-- a level is read out exactly, and comes back
pub mod Readout
-- what an engineer would check by hand
pub mod Consequences
-- figures by hand, computed
pub mod Figures
-- definitions by clauses, for proofs of code
pub mod Laws
