-- THE ENGINE AS DEFINITIONS, this layer's part: how the code goes about it. Of lists nobody need believe
-- them: demand 3 says that they come to what the plain panel does. Of a table that no list left, they are the
-- right side of the contracts. In reading order.
-- how long an output gives light; from due moment to due moment
pub mod Light
pub mod Advance
