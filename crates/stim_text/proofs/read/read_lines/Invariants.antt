use Rattle.std.proofs.Common.{◌≡◌, ◌≤◌, ◌+◌, length}
use Rattle.stim_text.specs.Stimulus.{read_lines, start}
use Rattle.stim_text.specs.Spoken.{lines}
use Rattle.stim_text.proofs.read.read_lines.Given as goal

abbrev pub invariant-loop-text : goal.invariant-loop-text
invariant-loop-text l = record {
  so_far : read_lines l.tables l.state l.line l.text-iterator ≡ read_lines l.tables (start l.tables) 1 (lines l.fn.bytes);
  fits : l.line + length l.text-iterator ≤ 16777217;
}
