-- What is found of some of the outputs: where a page could not be written out, it has what the outputs before
-- put on it. Definitions only.
use Rattle.std.specs.Prelude.{◌≡◌, Bool, List, ℕ, take}
use Rattle.lighting_outputs.specs.declared.Output.{Output}
use Rattle.text_printing.specs.declared.Page.{Page}
use Rattle.text_found.specs.Found.{with_found}

-- the page after the head and the first outputs of the list
pub record FoundPartly (s : Page) (report : Bool) (t : ℕ) (l : List Output) (after : Page) : Type 0 where
  pub count : ℕ
  pub page : after ≡ with_found s report t (take count l)
