-- the form, both ways
pub mod Fields
-- a body, both ways
pub mod Bodies
-- the writer and the reader
pub mod Commands
-- 14 and 15
pub mod Refused
-- no other bytes
pub mod Only
-- every command that the panel keeps
pub mod Kept
-- a plain command's fields in tags
pub mod PlainInTags
-- a frame in tags asks the same
pub mod InTags
