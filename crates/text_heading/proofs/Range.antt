-- A line that names a set is a good one where the set may be started, whatever the marks, and else says which
-- number may not be so: the ranges of the words are those of `startable`, number by number.
use mathlib.Core.Path.{◌≡◌, refl, sym, ap, ◌∙◌}
use mathlib.Core.Bool.{true, false, false≢true}
use Prim.Native.Nat.{ℕ, ◌≤◌, ◌<◌, min}
use native.Mathlib.Omega.{arith}
use Rattle.lighting_levels.specs.Paper.Choice.{when◌then◌else◌, ◌also◌}
use Rattle.lighting_outputs.specs.Paper.Rows.{within}
use Rattle.lighting_outputs.specs.Paper.Startable.{most_stations, most_outputs, least_time, most_fade, most_duration, startable}
use Rattle.lighting_outputs.proofs.Rules.Startable.{startable_of}
use Rattle.lighting_levels.proofs.Split.{by_bool, by_le, leb_yes, leb_no}
use Rattle.text_heading.specs.Words.{number_in, bounds, fits}
use Rattle.text_heading.specs.Heading.{fitting, judged}
use Rattle.text_heading.specs.declared.Word.{Word}
use Rattle.text_heading.specs.declared.Word.TheVariants.{Outputs, Stations, Fade, Duration, Tenants}
use Rattle.text_heading.specs.declared.Named.{Named}
use Rattle.text_heading.specs.declared.HeadingFault.TheVariants.{Outside}
use Rattle.text_heading.specs.declared.HeadingFault.{HeadingFault}
use Rattle.std.specs.Prelude.{Result, Ok, Err}

-- A WORD'S NUMBER that does not fit is named, whatever comes after it
pub fitting_err : (w : Word) (q : Named) (f : HeadingFault) (e : Result Named HeadingFault) → fitting w q (Ok q) ≡ Err f → fitting w q e ≡ Err f
unfolding fitting when◌then◌else◌
fitting_err w q f e h = by_bool (fits w q) (λ t. let z = rw t at h in cc) (λ t. rw t (rw t at h))

-- THE TEST, number by number
startable_fits :
    (q : Named) →
    startable q.parameters ≡ (fits Stations q also fits Outputs q also fits Fade q also fits Duration q)
unfolding startable fits bounds number_in
startable_fits q = refl

-- a word's number fits, or that word is named
pub data Judged (q : Named) : Type 0 where
  all_fit : startable q.parameters ≡ true → judged q ≡ Ok q → Judged q
  outside :
      (w : Word) → startable q.parameters ≡ false → fits w q ≡ false → judged q ≡ Err (Outside w) →
      Judged q

pub judging : (q : Named) → Judged q
unfolding judged fitting when◌then◌else◌
judging q =
    by_bool (fits Stations q)
    (λ a.
    by_bool (fits Outputs q)
    (λ b.
    by_bool (fits Fade q)
    (λ c.
    by_bool (fits Duration q)
    (λ d. all_fit (startable_fits q ∙ rw (a, b, c, d)) (rw (a, b, c, d)))
    (λ d. outside Duration (startable_fits q ∙ rw (a, b, c, d)) d (rw (a, b, c, d))))
    (λ c. outside Fade (startable_fits q ∙ rw (a, b, c)) c (rw (a, b, c))))
    (λ b. outside Outputs (startable_fits q ∙ rw (a, b)) b (rw (a, b))))
    (λ a. outside Stations (startable_fits q ∙ rw a) a (rw a))

-- so a set that may be started is, and any other is refused with the word of a number that is out of range
pub judged_starts : (q : Named) → startable q.parameters ≡ true → judged q ≡ Ok q
judged_starts q h = by (judging q)
  where
    by : Judged q → judged q ≡ Ok q
    by (all_fit s e) = e
    by (outside w s f e) = absurd (false≢true (sym s ∙ h))

-- NUMBERS ABOVE 32 BITS are read as 4,294,967,295, which no word of the set takes. Marks are never above
abbrev pub capped : Named → Named
capped q =
    record {
      parameters =
          record {
            stations = min 4294967295 q.parameters.stations;
            outputs = min 4294967295 q.parameters.outputs;
            fade = min 4294967295 q.parameters.fade;
            duration = min 4294967295 q.parameters.duration;
          };
      tenants = min 4294967295 q.tenants;
    }

capped_same : (q : Named) → startable q.parameters ≡ true → q.tenants < 4294967296 → capped q ≡ q
capped_same q h t =
    let s = startable_of q.parameters h in
    let a : min 4294967295 q.parameters.stations ≡ q.parameters.stations = omega arith in
    let b : min 4294967295 q.parameters.outputs ≡ q.parameters.outputs = omega arith in
    let c : min 4294967295 q.parameters.fade ≡ q.parameters.fade = omega arith in
    let d : min 4294967295 q.parameters.duration ≡ q.parameters.duration = omega arith in
    let e : min 4294967295 q.tenants ≡ q.tenants = omega arith in
    rw (a, b, c, d, e)

within_capped :
    (low high n : ℕ) → low ≤ 4294967295 → high < 4294967295 →
    within low high (min 4294967295 n) ≡ within low high n
unfolding within when◌then◌else◌
within_capped low high n l h =
    by_le n 4294967295
    (λ k e. let same : min 4294967295 n ≡ n = omega arith in rw same)
    (λ k e.
    let most : min 4294967295 n ≡ 4294967295 = omega arith in
    rw (
      most,
      leb_yes {a = low} {b = 4294967295} l,
      leb_no {a = 4294967295} {b = high} h,
      leb_yes {a = low} {b = n} (omega arith),
      leb_no {a = n} {b = high} (omega arith),
    ))

fits_capped : (w : Word) (q : Named) → q.tenants < 4294967296 → fits w (capped q) ≡ fits w q
unfolding fits bounds number_in
fits_capped Outputs q t = within_capped 1 most_outputs q.parameters.outputs (omega arith) (omega arith)
fits_capped Stations q t = within_capped 1 most_stations q.parameters.stations (omega arith) (omega arith)
fits_capped Fade q t = within_capped least_time most_fade q.parameters.fade (omega arith) (omega arith)
fits_capped Duration q t =
    within_capped least_time most_duration q.parameters.duration (omega arith) (omega arith)
fits_capped Tenants q t = let e : min 4294967295 q.tenants ≡ q.tenants = omega arith in rw e

pub judged_capped : (q : Named) → q.tenants < 4294967296 → judged (capped q) ≡ judged q
unfolding judged fitting when◌then◌else◌
judged_capped q t =
    rw (fits_capped Stations q t, fits_capped Outputs q t, fits_capped Fade q t, fits_capped Duration q t)
    (by_bool (fits Stations q)
    (λ a.
    by_bool (fits Outputs q)
    (λ b.
    by_bool (fits Fade q)
    (λ c.
    by_bool (fits Duration q)
    (λ d. rw (a, b, c, d) (ap Ok (capped_same q (startable_fits q ∙ rw (a, b, c, d)) t)))
    (λ d. rw (a, b, c, d)))
    (λ c. rw (a, b, c)))
    (λ b. rw (a, b)))
    (λ a. rw a))
