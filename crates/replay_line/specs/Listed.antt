-- The whole text of a list. Each line ends with a newline (10). Definitions only.
use Rattle.std.specs.Prelude.{List, [], ◌∷◌, ◌++◌}
use Rattle.text_heading.specs.declared.Named.{Named}
use Rattle.lighting_frames.specs.Paper.Frames.{Bytes}
use Rattle.text_reading.specs.Spelling.{Gives, Silent, Heading}

-- for each string the line that gives it, and anywhere lines that say nothing
pub data Lines : List Bytes → Bytes → Type 0 where
  none : Lines [] []
  string : {b x t : Bytes} {l : List Bytes} → Gives b x → Lines l t → Lines (b ∷ l) (x ++ (10 ∷ t))
  remark : {x t : Bytes} {l : List Bytes} → Silent x → Lines l t → Lines l (x ++ (10 ∷ t))

-- the line that names a set and marks, and the strings' lines; lines that say nothing may come before it too,
-- and the last line may lack its newline
pub data Listing (s : Named) (l : List Bytes) : Bytes → Type 0 where
  named : {x t : Bytes} → Heading s x → Lines l t → Listing s l (x ++ (10 ∷ t))
  preface : {x t : Bytes} → Silent x → Listing s l t → Listing s l (x ++ (10 ∷ t))
  unended : {t : Bytes} → Listing s l (t ++ (10 ∷ [])) → Listing s l t
