use Rattle.std.proofs.Common.{length, ap, ◌∙◌}
use Rattle.sim_cells.specs.KeptBits.{bit_lists}
use Rattle.sim_cells.proofs.MemStates.{state_made}
use Rattle.sim_cells.proofs.mems.MemState.new.Goals as goal

pub returns-clause-state : goal.returns-clause-state
returns-clause-state c =
    state_made c.args.mem.now c.args.key.now c.in_ok-words.words.items (bit_lists c.in_ok-kept.kept.items) (length c.in_ok-hits.hits.items) c.requires (c.in_ok-words.ensures.items ∙ c.as_slice.ensures) c.in_ok-kept.ensures (c.in_ok-hits.ensures ∙ ap length c.as_slice-count.ensures)
