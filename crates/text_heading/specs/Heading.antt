-- The first line of a list, read one character at a time.
use Rattle.std.specs.Prelude.{Bool, false, Option, Some, None, Result, Ok, Err, [], ◌∷◌, ℕ, ◌+◌, ◌*◌, min, ltb, eqb}
use Rattle.lighting_levels.specs.Paper.Choice.{when◌then◌else◌, ◌also◌}
use Rattle.lighting_outputs.specs.Paper.Startable.{most_fade, most_duration}
use Rattle.lighting_frames.specs.Paper.Frames.{Bytes}
use Rattle.text_characters.specs.Characters.{is_blank, hex_value}
use Rattle.text_heading.specs.Words.{letter, base, may_follow, number_in, with_number, fits, has_come, with_come}
use Rattle.text_heading.specs.declared.Word.{Word}
use Rattle.text_heading.specs.declared.Word.TheVariants.{Outputs, Stations, Fade, Duration, Tenants}
use Rattle.text_heading.specs.declared.Named.{Named}
use Rattle.text_heading.specs.declared.Came.{Came}
use Rattle.text_heading.specs.declared.HeadingFault.{HeadingFault}
use Rattle.text_heading.specs.declared.HeadingFault.TheVariants.{NoOutputs, BadCount, BadWord, BadMarks, Outside}
use Rattle.text_heading.specs.declared.Place.{Place}
use Rattle.text_heading.specs.declared.Place.TheVariants.{Letters, Gap, Number, Trail, Spoilt}
use Rattle.text_heading.specs.declared.Heading.{Heading}

-- WHAT IS LEFT OUT: eight stations, and the greatest times: four hours for fades (§7), a day for durations;
-- and no marks (§8). The outputs are always named
abbrev pub left_out : Named
left_out =
    record {
      parameters = record { stations = 8; outputs = 0; fade = most_fade; duration = most_duration };
      tenants = 0;
    }

abbrev pub none_came : Came
none_came = record { stations = false; fade = false; duration = false; tenants = false }

unfoldable pub fresh_heading : Heading
fresh_heading = record { named = left_out; came = none_came; place = Letters Outputs 0 }

-- THE LINE AFTER ONE MORE CHARACTER c, and v, what it is worth as a digit
unfoldable pub with_place : Heading → Place → Heading
with_place h at = record { named = h.named; came = h.came; place = at }

-- what is wrong where a word is not there whole, and where no number follows it
unfoldable pub no_word : Word → HeadingFault
no_word Outputs = NoOutputs
no_word Stations = BadWord
no_word Fade = BadWord
no_word Duration = BadWord
no_word Tenants = BadWord

unfoldable pub no_number : Word → HeadingFault
no_number Outputs = BadCount
no_number Stations = BadWord
no_number Fade = BadWord
no_number Duration = BadWord
no_number Tenants = BadMarks

unfoldable pub misspelt : Heading → Word → Heading
misspelt h w = with_place h (Spoilt (no_word w))

unfoldable pub unnumbered : Heading → Word → Heading
unnumbered h w = with_place h (Spoilt (no_number w))

-- after k letters of a word: the next one, and a blank after the last
unfoldable pub lettered_by : Heading → Word → ℕ → ℕ → Option ℕ → Heading
lettered_by h w k c (Some l) = when eqb c l then with_place h (Letters w (k + 1)) else misspelt h w
lettered_by h w k c None = when is_blank c then with_place h (Gap w) else misspelt h w

unfoldable pub lettered : Heading → Word → ℕ → ℕ → Heading
lettered h w k c = lettered_by h w k c (letter w k)

-- after k digits, which made the number n: whether v is one more, and the line after it. 4,294,967,295 stands
-- for every number above it too, and 255 for every count of digits above it
unfoldable pub takes_digit : Word → ℕ → ℕ → Bool
takes_digit w k v = ltb v (base w) also may_follow w k

unfoldable pub digit_of : Word → ℕ → Option ℕ → Option ℕ
digit_of w k (Some v) = when takes_digit w k v then Some v else None
digit_of w k None = None

abbrev pub grown : Word → ℕ → ℕ → ℕ
grown w n v = min 4294967295 (base w * n + v)

unfoldable pub counted : Heading → Word → ℕ → ℕ → ℕ → Heading
counted h w k n v =
    record { named = with_number w (grown w n v) h.named; came = h.came; place = Number w (min 255 (k + 1)) }

unfoldable pub counted_on : Heading → Word → ℕ → ℕ → Heading
counted_on h w k v = counted h w k (number_in w h.named) v

unfoldable pub gapped_by : Heading → Word → ℕ → Option ℕ → Heading
gapped_by h w c (Some v) = counted h w 0 0 v
gapped_by h w c None = when is_blank c then h else unnumbered h w

unfoldable pub gapped : Heading → Word → Option ℕ → ℕ → Heading
gapped h w v c = gapped_by h w c (digit_of w 0 v)

unfoldable pub numbered_by : Heading → Word → ℕ → ℕ → Option ℕ → Heading
numbered_by h w k c (Some v) = counted_on h w k v
numbered_by h w k c None = when is_blank c then with_place h Trail else unnumbered h w

unfoldable pub numbered : Heading → Word → ℕ → Option ℕ → ℕ → Heading
numbered h w k v c = numbered_by h w k c (digit_of w k v)

-- a further word: `stations`, `fade`, `duration` or `tenants`, told by its first letter, and not for the
-- second time
unfoldable pub marked : Heading → Word → Heading
marked h w = record { named = h.named; came = with_come w h.came; place = Letters w 1 }

unfoldable pub word_begun : Heading → Word → Heading
word_begun h w = when has_come w h.came then with_place h (Spoilt BadWord) else marked h w

unfoldable pub trailed : Heading → ℕ → Heading
trailed h c =
    when is_blank c then h
    else when eqb c 115 then word_begun h Stations
    else when eqb c 102 then word_begun h Fade
    else when eqb c 100 then word_begun h Duration
    else when eqb c 116 then word_begun h Tenants
    else with_place h (Spoilt BadWord)

unfoldable pub step_at : Heading → Place → Option ℕ → ℕ → Heading
step_at h (Letters w k) v c = lettered h w k c
step_at h (Gap w) v c = gapped h w v c
step_at h (Number w k) v c = numbered h w k v c
step_at h Trail v c = trailed h c
step_at h (Spoilt f) v c = h

unfoldable pub heading_step : Heading → Option ℕ → ℕ → Heading
heading_step h v c = step_at h h.place v c

unfoldable pub read : Heading → ℕ → Heading
read h c = heading_step h (hex_value c) c

-- ALL THE CHARACTERS OF A TEXT, each by a step
unfoldable pub run : {A : Type 0} → (A → ℕ → A) → A → Bytes → A
run step a [] = a
run step a (c ∷ x) = run step (step a c) x

-- THE LINE'S END: the first number of the set out of range, in this order, or what is named. No marks are out
-- of range (§8)
unfoldable pub fitting : Word → Named → Result Named HeadingFault → Result Named HeadingFault
fitting w q e = when fits w q then e else Err (Outside w)

unfoldable pub judged : Named → Result Named HeadingFault
judged q = fitting Stations q (fitting Outputs q (fitting Fade q (fitting Duration q (Ok q))))

unfoldable pub ended_at : Named → Place → Result Named HeadingFault
ended_at q (Letters w k) = Err (no_word w)
ended_at q (Gap w) = Err (no_number w)
ended_at q (Number w k) = judged q
ended_at q Trail = judged q
ended_at q (Spoilt f) = Err f

unfoldable pub ended : Heading → Result Named HeadingFault
ended h = ended_at h.named h.place
