use Rattle.std.proofs.Common.{◌≡◌, ◌≤◌, ◌+◌, length}
use Rattle.rtlil_lex.specs.Lines.{token_lines}
use Rattle.rtlil_text.specs.ReadState.{start}
use Rattle.rtlil_text.specs.ReadText.{read_lines}
use Rattle.rtlil_text.specs.Text.{limited_lines}
use Rattle.rtlil_text.proofs.text.read_all.Given as goal

abbrev pub invariant-loop-found : goal.invariant-loop-found
invariant-loop-found l = record {
  so_far : read_lines 64 l.state l.line l.last (limited_lines (token_lines l.rest)) ≡ read_lines 64 start 1 1 (limited_lines (token_lines l.bytes));
  fits : l.line + length l.rest ≤ 16777217;
}

abbrev pub decreases-loop-found : goal.decreases-loop-found
decreases-loop-found l = length l.rest
