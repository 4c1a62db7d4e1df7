-- A SHORTER LONGEST FADE (§7), of frames: by two sets that differ in it alone a string of bytes is read
-- alike, unless it carries a fade time between the two that the longer one takes: by the shorter one that
-- is 12.
use Rattle.std.specs.Prelude.{Result, Ok, Err}
use mathlib.Core.Path.{◌≡◌, refl}
use mathlib.Core.Bool.{Bool, false}
use Prim.Native.Nat.{ℕ, suc, ◌≤◌}
use lib.Dec.{eqb, ltb}
use lib.ListN.{length}
use Rattle.lighting_levels.specs.Paper.Choice.{when◌then◌else◌}
use Rattle.lighting_levels.specs.Paper.Field.{byte_at, big_endian}
use Rattle.lighting_outputs.specs.declared.Parameters.{Parameters}
use Rattle.lighting_outputs.specs.Paper.Properties.{same}
use Rattle.lighting_outputs.specs.Paper.TimeWithin.{time_within}
use Rattle.lighting_frames.specs.Paper.Kinds.{kind_row}
use Rattle.lighting_frames.specs.Paper.Frames.{Bytes, request_of, call_of, called, clock_of, parse_by, parse}
use Rattle.lighting_frames.specs.Paper.FadeTimes.{fade_time_in, carries}
use Rattle.lighting_outputs.specs.declared.Property.TheVariants.{FadeTime}
use Rattle.lighting_frames.specs.declared.Action.{Action}
use Rattle.lighting_frames.specs.declared.Call.{Call}
use Rattle.lighting_frames.specs.declared.Frame.{Frame}
use Rattle.lighting_frames.specs.declared.Frame.TheVariants.{Clock, Calls}
use Rattle.lighting_frames.specs.declared.Kind.{Kind}
use Rattle.lighting_frames.specs.declared.Kind.TheVariants.{NoKind, ClockKind, CallKind}
use Rattle.lighting_levels.proofs.Split.{by_bool}
use Rattle.lighting_outputs.proofs.ShorterFade.{with_fade, Shortened, alike, refused, change, command}
use Rattle.lighting_frames.proofs.KindTable.{kind_byte, clock_byte}
use Rattle.lighting_frames.proofs.SetRead.{SetRead, none, refuses, writes, commands, set_read}
use Rattle.lighting_outputs.specs.declared.refusals.Refusal.{Refusal}
use Rattle.lighting_frames.specs.Paper.Tags.{reads}
use Rattle.lighting_outputs.specs.Paper.Answers.{Request}

-- a clock carries none
clock_carries : (least most : ℕ) (b : Bytes) → (kind_row (byte_at b 0)).kind ≡ ClockKind → carries least most b ≡ false
unfolding carries fade_time_in time_within when◌then◌else◌
clock_carries least most b kind = rw (clock_byte (byte_at b 0) kind)

-- A FRAME by the longer set, and by the shorter one: at most what is asked differs
abbrev pub asking : Call → Request → Call
asking call request =
    record { station = call.station; number = call.number; time = call.time; output = call.output; request = request }

pub data ShortenedFrame (between : Bool) : Result Frame Refusal → Result Frame Refusal → Type 0 where
  bad : {refusal : Refusal} → ShortenedFrame between (Err refusal) (Err refusal)
  clocked : {t : ℕ} → between ≡ false → ShortenedFrame between (Ok (Clock t)) (Ok (Clock t))
  asks : (call : Call) (request : Request) → Shortened between call.request request
      → ShortenedFrame between (Ok (Calls call)) (Ok (Calls (asking call request)))

module _ (p : Parameters) (fade : ℕ) (less : fade ≤ p.fade) where
  abbrev shorter : Parameters
  shorter = with_fade p fade

  -- A REQUEST
  request : (action : Action) (b : Bytes) → SetRead action b
      → Shortened (carries (suc fade) p.fade b) (request_of p action b) (request_of shorter action b)
  unfolding carries time_within when◌then◌else◌
  request action b (none reads carried) = rw (carried, reads p, reads shorter) (alike refl)
  request action b (refuses reads) = rw (reads p, reads shorter) refused
  request action b (writes property x reads carried) =
      let changed = change p fade less property x in
      rw (carried, reads p, reads shorter)
      (by_bool (same FadeTime property) (λ its. rw its (rw its at changed)) (λ other. rw other (rw other at changed)))
  request action b (commands operation duration reads carried) =
      rw (carried, reads p, reads shorter) (command p fade less operation duration)

  -- EVERY STRING OF BYTES
  by_kind : (c size : ℕ) (kind : Kind) (b : Bytes) → (kind_row (byte_at b 0)).kind ≡ kind
      → ShortenedFrame (carries (suc fade) p.fade b) (parse_by p c size kind b) (parse_by shorter c size kind b)
  unfolding parse_by called call_of clock_of when◌then◌else◌
  by_kind c size NoKind b is = bad
  by_kind c size ClockKind b is =
      by_bool (eqb (length b) size)
      (λ whole. rw whole (clocked (clock_carries (suc fade) p.fade b is)))
      (λ other. rw other bad)
  by_kind c size (CallKind action) b is =
      let asked = request action b (set_read action b (kind_byte (byte_at b 0) action is)) in
      by_bool (eqb (length b) size)
      (λ whole. rw whole
      (by_bool (ltb (byte_at b 1) p.stations)
      (λ station. rw station
      (by_bool (eqb (big_endian 4 b 2) 0)
      (λ zero. rw zero bad)
      (λ number. rw number
      (by_bool (ltb (byte_at b 12) c) (λ output. rw output (asks _ _ asked)) (λ past. rw past bad)))))
      (λ past. rw past bad)))
      (λ other. rw other bad)

  pub parsed : (c : ℕ) (b : Bytes) → ShortenedFrame (carries (suc fade) p.fade b) (parse p c b) (parse shorter c b)
  unfolding parse
  parsed c b = by_kind c (kind_row (byte_at b 0)).length (kind_row (byte_at b 0)).kind b refl
