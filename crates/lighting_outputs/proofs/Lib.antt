use Rattle.std.specs.Prelude.{Some}
-- The theorems of this layer, in reading order.
-- slots: the mask, the winner, levels that stay levels
pub mod Priorities
-- how time passes: event steps equal ticks
pub mod Time
-- the record rules as facts, and ranges
pub mod Rules
-- the number of outputs of a set plays no part here (§6)
pub mod OutputCount
-- of two longest fades: the rules, and requests, by the shorter one (§7)
pub mod ShorterFade
-- every act keeps the record rules
pub mod Acts
-- between a REAL and its pattern nothing is lost
pub mod Patterns
-- the bytes of answers tell them apart
pub mod AnswersApart
-- what an engineer would check by hand
pub mod Consequences
-- bench figures and figures by hand, computed
pub mod Figures
-- definitions by clauses, for proofs of code
pub mod Laws

-- for functions over a lent table
