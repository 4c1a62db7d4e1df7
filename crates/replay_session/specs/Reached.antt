-- What an error leaves: the tables as the text before it made them. Definitions only.
use Rattle.std.specs.Prelude.{◌≡◌, ℕ, take}
use Rattle.lighting_frames.specs.Paper.Frames.{Bytes}
use Rattle.lighting_panel.specs.Paper.Panel.{Panel}
use Rattle.text_reading.specs.declared.Reader.{Reader}
use Rattle.replay_line.specs.Taking.{through}

-- the first characters of the text x came, and the tables p came to q
pub record ReachedIn (x : Bytes) (p : Panel) (w : Reader) (q : Panel) : Type 0 where
  pub count : ℕ
  pub panel : q ≡ (through p w (take count x)).panel

-- some text came, and the tables p came to q. Which text, no definition says: it comes from outside
pub record Reached (p : Panel) (w : Reader) (q : Panel) : Type 0 where
  pub came : Bytes
  pub panel : q ≡ (through p w came).panel
