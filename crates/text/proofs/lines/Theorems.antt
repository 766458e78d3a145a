-- The claims of specs/lines/Claims.antt. Assumes nothing.
use Rattle.text.specs.lines.Claims.{LinesAppend, LinesOfElements, AtMost25}
use Rattle.text.proofs.lines.Laws as laws

pub lines_append : LinesAppend
lines_append = laws.lines_append

pub lines_of_elements : LinesOfElements
lines_of_elements = laws.lines_of_elements

pub at_most_25 : AtMost25
at_most_25 = laws.line_short
