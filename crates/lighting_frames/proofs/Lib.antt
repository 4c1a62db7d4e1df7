-- The theorems of this layer, in reading order.
-- the table of kinds
pub mod KindTable
-- the rule of a station's record
pub mod StationRule
-- a number in octets, and read back
pub mod Octets
-- a kind and the number that 0F reads
pub mod Operations
-- commands in tags (§1), written and read
pub mod Tagging
-- what a request reads of a set
pub mod SetRead
-- the number of outputs of a set plays no part here (§6)
pub mod OutputCount
-- of two longest fades: a frame, by the shorter one (§7)
pub mod ShorterFade
-- what the reading of a frame leaves in range
pub mod Reading
-- what an engineer would check by hand
pub mod Consequences
-- figures by hand, computed
pub mod Figures
-- definitions by clauses, for proofs of code
pub mod Laws

-- for functions over a lent table
