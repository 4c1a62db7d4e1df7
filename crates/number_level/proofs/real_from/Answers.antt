use mathlib.Core.Path.{sym}
use lib.Ieee.{of_bits, div}
use Rattle.lighting_levels.specs.Paper.Level.{real}
use Rattle.number_level.proofs.Numbers.{read}
use Rattle.number_level.proofs.real_from.Goals as goal

pub returns-then-nan_bits : goal.returns-then-nan_bits
unfolding real of_bits div
returns-then-nan_bits c = sym (read c.args.pattern c.nan_bits.ensures c.if-nan_bits.true)
