-- THE ENGINE AS DEFINITIONS, this layer's part: how the code goes about it. Of lists nobody need believe
-- them: demand 3 says that they come to what the plain panel does. Of a table that no list left, they are the
-- right side of the contracts. In reading order.
-- a frame judged by its station's record, and carried out
pub mod Judging
pub mod Executing
-- what inner functions ask of a verdict: not of the paper
pub mod VerdictPrecondition
