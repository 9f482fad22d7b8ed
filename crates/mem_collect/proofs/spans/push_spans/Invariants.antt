use Rattle.std.proofs.Common.{◌≡◌, ◌+◌, ◌≤◌, ◌++◌, length}
use Rattle.mem_collect.specs.Spans as table
use Rattle.mem_collect.proofs.spans.push_spans.Given as goal

abbrev pub invariant-loop-rest : goal.invariant-loop-rest
invariant-loop-rest l =
    (l.spans.items ++ table.spans_from l.first l.words l.rest ≡ l.initial.spans.items ++ table.spans_from 0 1 l.fn.flags)
    × (l.first + l.words + length l.rest ≤ 4294967295)

abbrev pub decreases-loop-rest : goal.decreases-loop-rest
decreases-loop-rest l = length l.rest
