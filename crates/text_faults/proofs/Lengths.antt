-- How long a fault's line is at most: it fits the room that a page keeps (text_found/proofs/Room.antt).
use Prim.Native.Nat.{ℕ, ◌≤◌}
use native.Mathlib.Omega.{arith}
use lib.ListN.{length, length-append}
use Rattle.text_heading.specs.Words.{bounds}
use Rattle.text_heading.specs.declared.Bounds.{Bounds}
use Rattle.text_heading.specs.declared.HeadingFault.{HeadingFault}
use Rattle.text_heading.specs.declared.HeadingFault.TheVariants.{NoOutputs, BadCount, BadWord, BadMarks, Outside}
use Rattle.text_reading.specs.declared.Fault.{Fault}
use Rattle.text_reading.specs.declared.Fault.TheVariants.{InHeading, NoDigit, HalfByte}
use Rattle.text_heading.proofs.Letters.{most_letters}
use Rattle.text_printing.proofs.Lengths.{decimal_length}
use Rattle.text_faults.specs.Faults.{bounds_words, outside_words, heading_words, fault_words, placed, fault_line, ended_line}

bounds_length : (b : Bounds) → length (bounds_words b) ≤ 44
unfolding bounds_words
bounds_length b = simp length-append (omega (arith, decimal_length b.least, decimal_length b.most))

heading_length : (f : HeadingFault) → length (heading_words f) ≤ 92
unfolding heading_words outside_words
heading_length NoOutputs = omega arith
heading_length BadCount = omega arith
heading_length BadWord = omega arith
heading_length BadMarks = omega arith
heading_length (Outside w) = simp length-append (omega (arith, most_letters w, bounds_length (bounds w)))

words_length : (f : Fault) → length (fault_words f) ≤ 92
unfolding fault_words
words_length (InHeading f) = heading_length f
words_length NoDigit = omega arith
words_length HalfByte = omega arith

placed_length : (k : ℕ) → length (placed k) ≤ 27
unfolding placed
placed_length k = simp length-append (omega (arith, decimal_length k))

pub fault_length : (k : ℕ) (f : Fault) → length (fault_line k f) ≤ 120
unfolding fault_line
fault_length k f = simp length-append (omega (arith, placed_length k, words_length f))

pub ended_length : (k : ℕ) → length (ended_line k) ≤ 68
unfolding ended_line
ended_length k = simp length-append (omega (arith, placed_length k))
