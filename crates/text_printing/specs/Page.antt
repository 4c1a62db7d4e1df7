-- A page: a lent stretch of bytes, with a mark up to which it is written. What comes past the page's end is
-- not written.
use Rattle.std.specs.Prelude.{◌≡◌, ◌+◌, min, max, length}
use Rattle.std.proofs.lemmas.List.Edits.{sets}
use Rattle.lighting_frames.specs.Paper.Frames.{Bytes}
use Rattle.text_printing.specs.declared.Page.{Page}

-- the page with the text x put on it from its mark on: the same bytes that were lent, and what they hold then
unfoldable pub with_text : Page → Bytes → Page
with_text p x = record {
  bytes = record p.bytes { now = sets p.bytes.now p.mark x };
  mark = max p.mark (min (p.mark + length x) (length p.bytes.now));
}

-- the text x written on the page
abbrev pub Wrote : Page → Bytes → Page → Type 0
Wrote page x after = after ≡ with_text page x
