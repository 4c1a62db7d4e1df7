-- refusal 1
pub mod RefusalOne
-- the number of every refusal
pub mod Refusals
-- the other outputs
pub mod Others
-- 32 bits hold a movement (§4)
pub mod Elapsed
-- the last command after every list (§1)
pub mod KeptInLists
-- the marks: kept, and bits beyond the stations (§8)
pub mod Marks
