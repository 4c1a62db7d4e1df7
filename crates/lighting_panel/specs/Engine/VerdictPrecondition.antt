-- Not of the paper: what the panel's inner functions ask (`requires`) of the outputs and of a verdict that
-- they carry out. proofs/Carried.antt has that a sound panel's outputs meet it (`All-stay`), and every
-- verdict on one (`decide_sure`).
use Rattle.std.specs.Prelude.{◌≡◌, List, map, ℕ, ◌^◌, ◌≤◌, ◌<◌, length, Result, Ok, Err}
use Rattle.lighting_frames.specs.Paper.Kinds.{longest_frame}
use Rattle.lighting_frames.specs.Paper.Frames.{Bytes}
use Rattle.lighting_outputs.specs.Engine.Advance.{greatest_count, advance}
use Rattle.lighting_outputs.specs.declared.Output.{Output}
use Rattle.lighting_frames.specs.declared.Call.{Call}
use Rattle.lighting_frames.specs.declared.Verdict.{Verdict}
use Rattle.lighting_frames.specs.declared.Verdict.TheVariants.{Copied, Clocked, Arrives}
use Rattle.lighting_outputs.specs.declared.refusals.Refusal.{Refusal}

-- while time stands the outputs stay as they are
abbrev pub Standing : ℕ → List Output → Type 0
Standing t outputs = t ≤ greatest_count → map (advance t t) outputs ≡ outputs

-- at panel time `now`, with c outputs and k stations
pub record Timely (now t : ℕ) : Type 0 where
  pub due : now ≤ t
  pub time : t < 2 ^ 48

pub record Arrival (now c k : ℕ) (b : Bytes) (call : Call) : Type 0 where
  pub moment : Timely now call.time
  pub station : call.station < k
  -- its mark is one of the word's 32 bits (§8)
  pub mark : call.station < 32
  pub output : call.output < c
  pub size : length b ≤ longest_frame

abbrev pub VerdictPrecondition : ℕ → ℕ → ℕ → Bytes → Result Verdict Refusal → Type 0
VerdictPrecondition now c k b (Err r) = Unit {0}
VerdictPrecondition now c k b (Ok (Copied a)) = Unit {0}
VerdictPrecondition now c k b (Ok (Clocked t)) = Timely now t
VerdictPrecondition now c k b (Ok (Arrives call)) = Arrival now c k b call
