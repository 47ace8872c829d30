-- The lines that an iterator has left.
use Rattle.std.specs.Prelude.{List}
use Rattle.theory.specs.Text.{Bytes, lines_of}
use Rattle.text.specs.declared.lines.Lines.{Lines}

abbrev pub lines_left : Lines → List Bytes
lines_left s = lines_of s.rest.now
