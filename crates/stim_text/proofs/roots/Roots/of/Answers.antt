use Rattle.std.proofs.Common.{ap, ◌∙◌, map, [], ◌++◌}
use Rattle.std.specs.List.{flat_map}
use Rattle.net_core.specs.Ports.{mem_clocks, ram_clocks}
use Rattle.stim_text.specs.Inputs.{with_roots}
use Rattle.stim_text.proofs.Rooting.{two_roots}
use Rattle.stim_text.proofs.roots.Roots.of.Goals as goal

pub returns : goal.returns
returns c =
    let m = c.args.«module».now in
    two_roots [] c.add_regs.new.self c.add_rams.new.self (map (λ r. r.clock) m.regs) (flat_map mem_clocks m.mems ++ flat_map ram_clocks m.rams)
    (c.in_ok-add_regs.ensures ∙ ap (λ rs. with_roots c.new-roots.result (map (λ r. r.clock) rs)) c.as_slice.ensures ∙ ap (λ t. with_roots t (map (λ r. r.clock) m.regs)) c.new-roots.ensures)
    (two_roots c.add_regs.new.self c.add_mems.new.self c.add_rams.new.self (flat_map mem_clocks m.mems) (flat_map ram_clocks m.rams)
    (c.in_ok-add_mems.ensures ∙ ap (λ xs. with_roots c.add_regs.new.self (flat_map mem_clocks xs)) c.as_slice-2.ensures)
    (c.in_ok-add_rams.ensures ∙ ap (λ xs. with_roots c.add_mems.new.self (flat_map ram_clocks xs)) c.as_slice-3.ensures))
