-- DOCUMENT 01 AND §1 TO §7 AS DEFINITIONS, this layer's part: what a reader must believe. In reading order;
-- docs/PAPER.md has all layers.
-- 'Frames': the table of kinds; a command in BACnet's own tagging (§1); a string of bytes read
pub mod Kinds
pub mod Tags
pub mod Frames
-- a station's record; 'The last number with the same bytes is a copy'
pub mod Stations
pub mod Copies
-- §1: a plain command sent in tags instead; by hand
pub mod InTags
pub mod WorkedTags
-- §7: the fade time that a frame carries
pub mod FadeTimes
