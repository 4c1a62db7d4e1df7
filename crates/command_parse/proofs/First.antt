-- The first refusal of a command's fields, taken from the left.
use mathlib.Core.Path.{◌≡◌, refl}
use Rattle.std.specs.Prelude.{Option, Some, None}
use Rattle.std.specs.Option.{option_or}
use Rattle.lighting_outputs.specs.declared.Parameters.{Parameters}
use Rattle.lighting_outputs.specs.Paper.Requests.{level_field_refusal, amount_field_refusal, time_field_refusal, first_refusal, fields_refusal}
use Rattle.lighting_outputs.specs.declared.OperationFields.{OperationFields}
use Rattle.lighting_outputs.specs.declared.refusals.Refusal.{Refusal}

grouped : (a b c d : Option Refusal) → option_or (option_or (option_or a b) c) d ≡ first_refusal a (first_refusal b (first_refusal c d))
unfolding first_refusal
grouped (Some a) b c d = refl
grouped None (Some b) c d = refl
grouped None None (Some c) d = refl
grouped None None None d = refl

pub from_left :
    (p : Parameters) (f : OperationFields) (a b c d ab abc r : Option Refusal) →
    a ≡ level_field_refusal f.level →
    b ≡ amount_field_refusal f.rate →
    c ≡ amount_field_refusal f.step →
    d ≡ time_field_refusal p f.fade →
    ab ≡ option_or a b →
    abc ≡ option_or ab c →
    r ≡ option_or abc d →
    r ≡ fields_refusal p f
unfolding fields_refusal
from_left p f a b c d ab abc r i j k l m n o =
    rw (o, n, m, i, j, k, l)
    (grouped (level_field_refusal f.level) (amount_field_refusal f.rate) (amount_field_refusal f.step) (time_field_refusal p f.fade))
