-- A text's characters as bytes.
use Rattle.std.specs.Prelude.{[], ◌∷◌}
use Prim.Native.Char.{code}
use Prim.Native.String.{String, [] as nothing, ◌∷◌ as ◌before◌}
use Rattle.lighting_frames.specs.Paper.Frames.{Bytes}

abbrev pub text : String → Bytes
text nothing = []
text (c before s) = code c ∷ text s
