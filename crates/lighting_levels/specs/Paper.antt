-- DOCUMENT 01 AND §1 TO §5 AS DEFINITIONS, this layer's part: what a reader must believe. In reading order;
-- docs/PAPER.md has all layers.
-- tests and conjunctions
pub mod Choice
-- 'Levels', rounded as §5 says; big-endian fields
pub mod Level
pub mod Field
-- §5 by hand
pub mod WorkedHalves
