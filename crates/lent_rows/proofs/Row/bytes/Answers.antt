use Rattle.std.proofs.Common.{rules}
use Rattle.lent_rows.proofs.Row.bytes.Goals as goal

pub returns : goal.returns
returns c i h = let k = c.map.ensures.items.at i 0 0 h in search rules
