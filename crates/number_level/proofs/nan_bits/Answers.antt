use mathlib.Core.Path.{sym}
use lib.Ieee.{binary32}
use lib.Ieee.Bits.{nan_bits_above}
use Rattle.number_level.proofs.nan_bits.Goals as goal

pub returns : goal.returns
returns c = sym (nan_bits_above binary32 c.args.pattern)
