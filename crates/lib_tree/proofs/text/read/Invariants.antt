use Rattle.std.proofs.Common.{◌≡◌, ◌≤◌, ◌+◌, length}
use Rattle.lib_tree.specs.Reading.{depth_of, lines, read, read_lines}
use Rattle.lib_tree.proofs.text.read.Given as goal

abbrev pub invariant-loop-read : goal.invariant-loop-read
invariant-loop-read l = record {
  same : read_lines l.reading l.line l.last (lines l.rest) ≡ read l.bytes;
  line : l.line + length l.rest ≤ 16777217;
  depth : depth_of l.reading.place + length l.rest ≤ 16777216;
}

abbrev pub decreases-loop-read : goal.decreases-loop-read
decreases-loop-read l = length l.rest
