-- a movement goes no further than its way
pub mod Way
-- how long a lamp gives light (§2)
pub mod Light
-- judging a judged output changes nothing (§3)
pub mod Judged
-- EVENT STEPS EQUAL TICKS
pub mod Passing
-- the same of an output that was not judged
pub mod Unjudged
-- where nothing falls due
pub mod Quiet
-- a tick keeps the record rules
pub mod Ticking
