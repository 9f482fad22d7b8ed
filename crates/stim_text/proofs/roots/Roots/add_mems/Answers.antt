use Rattle.std.proofs.Common.{refl, ap, ◌∙◌, map}
use Rattle.std.specs.List.{flat_map}
use Rattle.net_core.specs.Ports.{read_clock, mem_clocks}
use Rattle.stim_text.specs.Inputs.{with_roots}
use Rattle.stim_text.proofs.Rooting.{turn, done, two_roots}
use Rattle.stim_text.proofs.roots.Roots.add_mems.Goals as goal

pub loop-rest-preserved : goal.loop-rest-preserved
loop-rest-preserved c =
    turn mem_clocks (flat_map mem_clocks) (λ x xs. refl) c.loop-rest.self c.add_writes.new.self _ c.loop-rest.rest.now c.mem-item.result c.in-len1-up.len_at_least c.mem-item.is
    (two_roots c.loop-rest.self c.add_reads.new.self c.add_writes.new.self (flat_map (λ r. read_clock r.clock) c.mem-item.result.reads) (map (λ w. w.clock) c.mem-item.result.writes)
    (c.in_ok-add_reads.ensures ∙ ap (λ rs. with_roots c.loop-rest.self (flat_map (λ r. read_clock r.clock) rs)) c.as_slice.ensures)
    (c.in_ok-add_writes.ensures ∙ ap (λ ws. with_roots c.add_reads.new.self (map (λ w. w.clock) ws)) c.as_slice-in-len1-up.ensures))
    c.loop-rest.invariant

pub returns : goal.returns
returns c = done mem_clocks (flat_map mem_clocks) (λ x xs. refl) c.loop-rest.self _ c.loop-rest.rest.now refl c.in_default.len_below c.loop-rest.invariant
