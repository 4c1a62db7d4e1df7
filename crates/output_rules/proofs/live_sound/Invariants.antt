-- What is asked of all live slots is asked of those that are left in the mask.
use Rattle.std.proofs.Common.{◌≡◌, ◌<◌}
use Rattle.lighting_outputs.specs.Paper.Rules.{slots_sound}
use Rattle.output_rules.proofs.LiveSlots.{slots_with}
use Rattle.output_rules.proofs.live_sound.Given as goal

abbrev pub invariant-loop-left : goal.invariant-loop-left
invariant-loop-left l = record {
  fits : l.left < 65536;
  tested : slots_sound l.fn.s ≡ slots_sound (slots_with l.left l.levels);
}

abbrev pub decreases-loop-left : goal.decreases-loop-left
decreases-loop-left l = l.left
