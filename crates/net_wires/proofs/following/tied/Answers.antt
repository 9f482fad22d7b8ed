use Rattle.std.proofs.Common.{inl, inr, sym, ◌∙◌, ap, arith, add-one}
use Rattle.net_wires.specs.Doubling.{power, doubled}
use Rattle.net_wires.specs.Ties.{is_end}
use Rattle.std.specs.List.{list_all}
use Rattle.net_wires.proofs.following.tied.Goals as goal

pub loop-round-preserved : goal.loop-round-preserved
loop-round-preserved c = c.in_ok-now.ensures ∙ ap doubled (c.as_slice-in-loop-round.ensures.value ∙ c.loop-round.invariant) ∙ ap (power c.args.table.items) (sym (add-one c.loop-round.round))

pub returns-then-are_ends : goal.returns-then-are_ends
returns-then-are_ends c = record { rounds = c.loop-round.round; is = c.loop-round.invariant; far = inl (ap (list_all is_end) (sym c.as_slice.ensures.value) ∙ sym c.are_ends.ensures ∙ c.if-are_ends.true) }

pub returns : goal.returns
returns c = record { rounds = c.loop-round.round; is = c.loop-round.invariant; far = inr (omega arith) }
