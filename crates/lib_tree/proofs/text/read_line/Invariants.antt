use Rattle.std.proofs.Common.{◌≡◌, ◌≤◌, ◌+◌, length}
use Rattle.lib_tree.specs.Lex.{tokens}
use Rattle.lib_tree.specs.Reading.{depth_of, read_line}
use Rattle.lib_tree.proofs.text.read_line.Given as goal

abbrev pub invariant-loop-reading : goal.invariant-loop-reading
invariant-loop-reading l = record {
  same : read_line l.reading l.line l.last (tokens l.line l.rest) ≡ read_line l.fn.reading l.line l.fn.last (tokens l.line l.bytes);
  depth : depth_of l.reading.place + length l.rest ≤ depth_of l.fn.reading.place + length l.bytes;
}

abbrev pub decreases-loop-reading : goal.decreases-loop-reading
decreases-loop-reading l = length l.rest
